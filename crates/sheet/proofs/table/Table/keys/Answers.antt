use Rattle.std.proofs.Common.{◌-◌, ◌+◌, ◌*◌, ◌/◌, length, take, drop, ◌∙◌, arith, length-take, length-drop}
use Rattle.std.proofs.lemmas.List.{get_or-take, get_or-drop}
use Rattle.sheet.proofs.Chunks.{key_in}
use Rattle.sheet.proofs.table.Table.keys.Goals as goal

pub returns-clause-each : goal.returns-clause-each
returns-clause-each c i d h =
    let t = c.args.self.now in
    let bytes = t.bytes.now in
    let size = 2 + 6 * t.count - 2 in
    let front = take size (drop 2 bytes) in
    rw c.as_chunks.ensures.front
    (key_in bytes front 2 (length front / 6) i d (omega (arith, t.counted, t.measured, length-take size (drop 2 bytes), length-drop 2 bytes))
    (λ m l. get_or-take size (drop 2 bytes) m 0 (omega (arith, t.counted, t.measured, length-take size (drop 2 bytes), length-drop 2 bytes)) ∙ get_or-drop 2 bytes m 0))
