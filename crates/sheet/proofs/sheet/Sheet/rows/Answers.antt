use Rattle.std.proofs.Common.{◌≡◌, sym, ap, ◌∙◌, subst, length, arith}
use Rattle.std.specs.List.{All}
use Rattle.sheet.specs.Left.{rows_left}
use Rattle.sheet.specs.Rows.{rows}
use Rattle.sheet.specs.Sheets.{Passes}
use Rattle.sheet.proofs.Accepted.{few_rows, row_passes}
use Rattle.sheet.proofs.Pairs.{length_rows, row_by_place}
use Rattle.sheet.proofs.sheet.Sheet.rows.Goals as goal

pub returns : goal.returns
returns c =
    let s = c.args.self.now in
    let bytes = s.bytes.now in
    let is : rows_left c.rows.result ≡ rows bytes = c.rows.ensures.all ∙ ap rows c.table.ensures in
    let few = few_rows bytes s.accepted in
    record {
      all = is;
      few = omega (arith, ap length is, length_rows bytes);
      passing = subst (All Passes) (sym is) (λ k d l. subst Passes (sym (row_by_place bytes k d (omega (arith, length_rows bytes)))) (row_passes bytes s.accepted k (omega (arith, length_rows bytes))));
    }
