-- A market balance depends on nothing that does not concern its coordinator.
use Rattle.std.proofs.Common.{◌≡◌, ℕ, suc, List, [], ◌∷◌, length, pos, ◌+ℤ◌, sym, refl, ap, ◌∙◌, ap₂, arith}
use Rattle.std.proofs.lemmas.Bool.{ne_eqb}
use Rattle.sheet.specs.declared.row.Row.{Row}
use Rattle.sheet.specs.Rows.{rows, own_rows}
use Rattle.charges.specs.Rules.{Meaning, line, line_of, quantity_of}
use Rattle.charges.specs.Sums.{over_z}
use Rattle.year.specs.Market.{post, adjust, pay_market}
use Rattle.year.specs.Book.{Call, of_market, of_rc, Outcome, refused, accepted, accepted_of}
use Rattle.year.specs.Isolation.{Elsewhere, Alike, posts, adjusts, pays, neither, SameOutcome, SameOutcomes}
use Rattle.year.proofs.Sums.{zero_not_suc}
use Rattle.year.proofs.Balances.{moves_market}

same_line : (m : Meaning) (rate : ℕ) (rs rs' : List Row) (k : ℕ) → own_rows k rs ≡ own_rows k rs' → line_of m rate rs k ≡ line_of m rate rs' k
unfolding line_of
same_line m rate rs rs' k e = ap (λ own. line (quantity_of m k own) rate) e

still : (k : ℕ) (c : Call) → Elsewhere k c → moves_market k c ≡ pos 0
still k (of_market (post m day rate sheet)) h = absurd h
still k (of_market (adjust who amount)) h = rw (ne_eqb who k h)
still k (of_market (pay_market who amount)) h = rw (ne_eqb who k h)
still k (of_rc call) h = refl

same_move : (k : ℕ) (c c' : Call) → Alike k c c' → moves_market k c ≡ moves_market k c'
same_move k c c' (posts {m} {day} {rate} {sheet} {sheet'} e) = ap pos (same_line m rate (rows sheet) (rows sheet') k e)
same_move k c c' adjusts = refl
same_move k c c' pays = refl
same_move k c c' (neither h h') = still k c h ∙ sym (still k c' h')

same_outcome : (k : ℕ) (o o' : Outcome) (os os' : List Outcome) → SameOutcome k o o' → over_z (accepted_of os) (moves_market k) ≡ over_z (accepted_of os') (moves_market k) →
    over_z (accepted_of (o ∷ os)) (moves_market k) ≡ over_z (accepted_of (o' ∷ os')) (moves_market k)
same_outcome k refused refused os os' s e = e
same_outcome k refused (accepted c') os os' s e = absurd s
same_outcome k (accepted c) refused os os' s e = absurd s
same_outcome k (accepted c) (accepted c') os os' s e = ap₂ ◌+ℤ◌ (same_move k c c' s) e

pub same_moves : (k : ℕ) (os os' : List Outcome) → length os ≡ length os' → SameOutcomes k os os' → over_z (accepted_of os) (moves_market k) ≡ over_z (accepted_of os') (moves_market k)
same_moves k [] [] l h = refl
same_moves k [] (o' ∷ os') l h = absurd (zero_not_suc l)
same_moves k (o ∷ os) [] l h = absurd (zero_not_suc (sym l))
same_moves k (o ∷ os) (o' ∷ os') l h = same_outcome k o o' os os' (h 0 (omega arith)) (same_moves k os os' (omega arith) (λ j w. h (suc j) (omega arith)))
