use Rattle.std.proofs.Common.{rules, arith}
use Rattle.std.proofs.lemmas.Bool.Decides.{nat_tests}
use Rattle.std.proofs.lemmas.List.Sorted.{IsPartitionPoint-from_clause}
use Rattle.sheet.proofs.Search.{bytes_before, keys_parted, first_by_keys}
use Rattle.sheet.proofs.sheet.Sheet.first_row.Goals as goal

pub returns-clause-place : goal.returns-clause-place
returns-clause-place c =
    let s = c.args.self.now in
    let long = rw c.table.ensures at c.keys.ensures.long in
    let each = rw c.table.ensures at c.keys.ensures.each in
    let parted = keys_parted s.bytes.now s.accepted c.args.pair.coordinator c.args.pair.resource c.keys.result.now long each in
    let point = IsPartitionPoint-from_clause (bytes_before c.args.pair.coordinator c.args.pair.resource) _ _ c.partition_point.ensures.partitioned parted (λ a r q k. search rules) in
    let place = first_by_keys s.bytes.now s.accepted c.args.pair.coordinator c.args.pair.resource c.keys.result.now long each _ point in
    let bound = c.partition_point.ensures.bound in
    λ i h. let here = place i h in grind (arith, nat_tests, here, h, bound, long, s.counted)
