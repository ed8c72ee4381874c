use Rattle.std.proofs.Common.{◌≡◌, sym, ap, ◌∙◌, arith}
use Rattle.std.proofs.lemmas.List.FromFn.{get_or-map-range_with_len}
use Rattle.sheet.specs.Rows.{row_at}
use Rattle.sheet.proofs.Accepted.{row_passes}
use Rattle.sheet.proofs.sheet.Sheet.row.Goals as goal

pub returns : goal.returns
returns c =
    let bytes = c.args.self.now.bytes.now in
    let p = row_passes bytes c.args.self.now.accepted c.args.i c.requires in
    let is : c.row.result ≡ row_at bytes c.args.i = c.row.ensures ∙ ap (λ bs. row_at bs c.args.i) c.table.ensures in
    record {
      value = is;
      ith = get_or-map-range_with_len (row_at bytes) 0 _ c.args.i c.args.i _ c.requires (omega arith) ∙ sym is;
      ranged = rw is p.ranged;
      bounded = rw is p.bounded;
    }
