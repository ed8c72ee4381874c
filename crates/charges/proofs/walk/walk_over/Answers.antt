use Rattle.std.proofs.Common.{◌≡◌, ℕ, ◌+◌, ◌<◌, ◌≤◌, false, sym, ◌∙◌, arith}
use Rattle.sheet.specs.Rows.{PartIsByte, of_pair, row_at, row_count}
use Rattle.sheet.specs.Sheets.{sheet_rows}
use Rattle.sheet.proofs.Pairs.{each_row}
use Rattle.sheet.proofs.Search.{past_last}
use Rattle.charges.proofs.Walks.{walk_begun, walk_stepped, walk_own, walk_all}
use Rattle.charges.proofs.walk.walk_over.Goals as goal

pub loop-i-init : goal.loop-i-init
loop-i-init g c =
    let sheet = c.args.sheet in
    walk_begun sheet.bytes.now sheet.accepted g.F.Figures.running c.args.pair.coordinator c.args.pair.resource c.new-walk.result c.first_row.result (c.new-walk.ensures (sheet_rows sheet)) c.first_row.ensures.inside c.first_row.ensures.place

pub loop-i-preserved : goal.loop-i-preserved
loop-i-preserved g c =
    let sheet = c.args.sheet in
    walk_stepped sheet.bytes.now sheet.accepted g.F.Figures.running c.args.pair.coordinator c.args.pair.resource c.loop-i.walk c.step.new.self c.loop-i._i c.loop-i.invariant c.step.ensures.more

pub returns-after-loop-i : goal.returns-after-loop-i
returns-after-loop-i g c =
    let sheet = c.args.sheet in
    let end = c.len-i-end.ensures.value in
    record {
      figures = walk_all sheet.bytes.now sheet.accepted g.F.Figures.running c.args.pair.coordinator c.args.pair.resource c.loop-i.walk c.loop-i._i c.loop-i.invariant (λ i l h. absurd (omega arith));
      parts = each_row sheet.bytes.now PartIsByte sheet.parts;
    }

pub returns-then-not-step : goal.returns-then-not-step
returns-then-not-step g c =
    let sheet = c.args.sheet in
    let bytes = sheet.bytes.now in
    let coordinator = c.args.pair.coordinator in
    let resource = c.args.pair.resource in
    let n = c.loop-i._i in
    let own = walk_own bytes sheet.accepted g.F.Figures.running coordinator resource c.loop-i.walk n c.step.result c.loop-i.invariant c.step.ensures.own in
    let next = walk_stepped bytes sheet.accepted g.F.Figures.running coordinator resource c.loop-i.walk c.step.new.self n c.loop-i.invariant c.step.ensures.more in
    let none : (j : ℕ) → n + 1 ≤ j → j < row_count bytes → of_pair coordinator resource (row_at bytes j) ≡ false =
    λ j l h. past_last bytes sheet.accepted coordinator resource c.first_row.result c.first_row.ensures.place n j c.loop-i.auto._i (omega arith) h (sym own ∙ c.if-not-step.true) in
    record {
      figures = walk_all bytes sheet.accepted g.F.Figures.running coordinator resource c.step.new.self (n + 1) next none;
      parts = each_row bytes PartIsByte sheet.parts;
    }
