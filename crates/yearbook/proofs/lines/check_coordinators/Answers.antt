use Rattle.std.proofs.Common.{◌≡◌, ◌<◌, ℕ, List, length, get_or, sym, ap, ◌∙◌, arith, rules, zero-add}
use Rattle.std.specs.List.{enumerate_from}
use Rattle.std.proofs.lemmas.List.{length-append}
use Rattle.std.proofs.lemmas.List.FromFn.{length-enumerate_from, get_or-enumerate_from, length-map-range_with_len, get_or-map-range_with_len}
use Rattle.std.proofs.lemmas.Iterator.Consumers.{YieldsList-from_first, YieldsList-from_enumerate, YieldsList-turn, YieldsList-end}
use Rattle.questions.specs.Questions.{acceptance, in_turn}
use Rattle.questions.proofs.Asked.{turn_none, turn_passed, turn_refused}
use Rattle.sheet.specs.declared.row.Row.{Row}
use Rattle.sheet.specs.Left.{rows_left}
use Rattle.sheet.specs.Rows.{row_count, row_at, rows}
use Rattle.yearbook.proofs.Posting.{coordinator_question, coordinators_asked, refused_9, passed_9}
use Rattle.yearbook.proofs.lines.check_coordinators.Goals as goal

-- the row at a place, as the loop meets it
met : (bytes : List ℕ) (i place : ℕ) (row : Row) → i < length (enumerate_from 0 (rows bytes)) → ◌≡◌ {A = ℕ × Row} (place, row) (get_or (enumerate_from 0 (rows bytes)) i (place, row)) →
    (i < row_count bytes) × (place ≡ i) × (row ≡ row_at bytes i)
met bytes i place row h e =
    let l = length-enumerate_from 0 (rows bytes) in
    let n = length-map-range_with_len (row_at bytes) 0 (row_count bytes) in
    let w : i < length (rows bytes) = omega arith in
    let p = e ∙ get_or-enumerate_from 0 (rows bytes) i (place, row) w in
    (omega arith, ap (λ (x : ℕ × Row). x.0) p ∙ zero-add i, ap (λ (x : ℕ × Row). x.1) p ∙ get_or-map-range_with_len (row_at bytes) 0 (row_count bytes) i i row (omega arith) (zero-add i))

pub loop-place-init : goal.loop-place-init
loop-place-init c = turn_none (coordinator_question c.args.count c.args.sheet.bytes.now)

pub returns-then-from-count : goal.returns-then-from-count
returns-then-from-count c =
    let bytes = c.args.sheet.bytes.now in
    let n = c.args.count in
    let road = YieldsList-from_enumerate {s = c.into_iter-place-iterator.result} (YieldsList-from_first (λ x. x) rows_left (rows bytes) (search rules)) (search rules) in
    let t = YieldsList-turn road c.loop-place.yielded _ c.loop-place.yielded_by c.next.result c.next.new.self (c.in-Some.place, c.in-Some.row) c.in-Some.is c.next.ensures.steps in
    let m = met bytes (length c.loop-place.yielded) c.in-Some.place c.in-Some.row t.0 t.1 in
    let e = ap (λ (r : Row). r.key.coordinator) m.2 in
    let f = c.from.ensures in
    rw m.1 (ap acceptance (sym (coordinators_asked n bytes ∙ turn_refused (coordinator_question n bytes) (row_count bytes) (length c.loop-place.yielded) _ m.0 c.loop-place.invariant (refused_9 n bytes (length c.loop-place.yielded) (omega arith)))))

pub loop-place-preserved : goal.loop-place-preserved
loop-place-preserved c =
    let bytes = c.args.sheet.bytes.now in
    let n = c.args.count in
    let road = YieldsList-from_enumerate {s = c.into_iter-place-iterator.result} (YieldsList-from_first (λ x. x) rows_left (rows bytes) (search rules)) (search rules) in
    let t = YieldsList-turn road c.loop-place.yielded _ c.loop-place.yielded_by c.next.result c.next.new.self (c.in-Some.place, c.in-Some.row) c.in-Some.is c.next.ensures.steps in
    let m = met bytes (length c.loop-place.yielded) c.in-Some.place c.in-Some.row t.0 t.1 in
    let e = ap (λ (r : Row). r.key.coordinator) m.2 in
    let f = c.from.ensures in
    rw length-append (turn_passed (coordinator_question n bytes) (length c.loop-place.yielded) c.loop-place.invariant (passed_9 n bytes (length c.loop-place.yielded) (omega arith)))

pub returns : goal.returns
returns c =
    let bytes = c.args.sheet.bytes.now in
    let n = c.args.count in
    let road = YieldsList-from_enumerate {s = c.into_iter-place-iterator.result} (YieldsList-from_first (λ x. x) rows_left (rows bytes) (search rules)) (search rules) in
    let t = YieldsList-end road c.loop-place.yielded _ c.loop-place.yielded_by c.next.result c.next.new.self c.in-None.is c.next.ensures.steps in
    let l = length-enumerate_from 0 (rows bytes) in
    let m = length-map-range_with_len (row_at bytes) 0 (row_count bytes) in
    let all : length c.loop-place.yielded ≡ row_count bytes = t.1 ∙ l ∙ m in
    ap acceptance (sym (coordinators_asked n bytes ∙ ap (λ k. in_turn k (coordinator_question n bytes)) (sym all) ∙ c.loop-place.invariant))
