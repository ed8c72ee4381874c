-- The worked examples, computed.
use Rattle.std.proofs.Common.{◌≡◌, List, [], ◌∷◌, map, refl}
use Rattle.std.specs.List.{AllByRecursion}
use Rattle.questions.specs.Questions.{ask, first, in_turn}
use Rattle.sheet.specs.Questions.{row_questions, row_refusal, count_refusal, sheet_refusal}
use Rattle.charges.specs.Rules.{quantity_of, line, line_of}
use Rattle.year.specs.Spread.{quotient, spread}
use Rattle.year.specs.Terms.{flagged, coordinator_refusal, open_refusal}
use Rattle.year.specs.Market.{coordinators_refusal, balance_refusal, lines_refusal, post_refusal, adjust_refusal, pay_market_refusal, market_effect}
use Rattle.year.specs.Rc.{minimums, assessment, spreadable, pay_rc_refusal, assess_refusal, default_refusal, passed_on, rc_effect}
use Rattle.year.specs.Book.{no_market, no_rc}
use Rattle.year.specs.Examples.{Example, Examples, Holds, result, table}

-- the lists are equal, so each place is
all_equal : (es : List Example) → map (λ e. result e.worked) es ≡ map (λ e. e.expected) es → AllByRecursion Holds es
all_equal [] h = tt
all_equal (e ∷ es) h = (cc, all_equal es (cc))

pub examples : Examples
unfolding flagged ask first in_turn row_questions row_refusal count_refusal sheet_refusal quantity_of line line_of quotient spread coordinator_refusal open_refusal coordinators_refusal balance_refusal lines_refusal post_refusal adjust_refusal pay_market_refusal market_effect minimums assessment spreadable pay_rc_refusal assess_refusal default_refusal passed_on rc_effect no_market no_rc
examples = all_equal table refl
