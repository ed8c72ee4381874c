use Rattle.std.proofs.Common.{◌-◌, ◌+◌, ◌*◌, ◌/◌, length, take, drop, ap, ◌∙◌, arith, length-take, length-drop}
use Rattle.std.proofs.lemmas.List.{get_or-take, get_or-drop}
use Rattle.sheet.specs.Rows.{quantity_at}
use Rattle.sheet.proofs.Chunks.{quantity_in}
use Rattle.sheet.proofs.table.Table.quantities.Goals as goal

pub returns-clause-each : goal.returns-clause-each
returns-clause-each c i d h =
    let t = c.args.self.now in
    let bytes = t.bytes.now in
    let from = 2 + 6 * t.count in
    let size = length bytes - from in
    let back = take size (drop from bytes) in
    rw c.as_chunks.ensures.front
    (quantity_in bytes back from (length back / 4) i d (omega (arith, t.counted, t.measured, length-take size (drop from bytes), length-drop from bytes))
    (λ m l. get_or-take size (drop from bytes) m 0 (omega (arith, t.counted, t.measured, length-take size (drop from bytes), length-drop from bytes)) ∙ get_or-drop from bytes m 0)
    ∙ ap (λ n. quantity_at bytes (2 + 6 * n + 4 * i)) t.counted)
