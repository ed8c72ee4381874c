use Rattle.std.proofs.Common.{◌-◌, ◌*◌, ◌&&◌, leb, sym, ap, ◌∙◌, arith}
use Rattle.year.specs.Terms.{flagged}
use Rattle.yearbook.specs.Coordinators.{demands, terms_in}
use Rattle.yearbook.proofs.Assessing.{assess_15, assess_16, assess_17, assess_none, spread_no, spread_nothing, spread_carried}
use Rattle.yearbook.proofs.book.YearBook.check_assess.Goals as goal
use Rattle.yearbook.proofs.book.YearBook.check_assess.Goals.{else-rest-gt0-via-then-rest-gt0+else-total_demand-eq0, else-rest-gt0-via-else-rest-gt0}

pub returns-then-is_some-clause-asked : goal.returns-then-is_some-clause-asked
returns-then-is_some-clause-asked c = assess_15 c.args.self.now c.args.charge c.args.minimum (sym c.if-is_some.ensures)

pub returns-then-not-charge_in_range-clause-asked : goal.returns-then-not-charge_in_range-clause-asked
returns-then-not-charge_in_range-clause-asked c =
    let q = c.args.charge in
    let m = c.args.minimum in
    let f = c.count_flagged-flagged.ensures.value in
    assess_16 c.args.self.now q m (sym c.if-is_some.ensures)
    (ap (λ x. leb q 2000000000 && leb m 2000000000 && leb (m * x) q) (sym f) ∙ sym c.if-not-charge_in_range.ensures)

pub returns-then-total_demand-eq0-clause-asked : goal.returns-then-total_demand-eq0-clause-asked
returns-then-total_demand-eq0-clause-asked c =
    let s = c.args.self.now in
    let q = c.args.charge in
    let m = c.args.minimum in
    let f = c.count_flagged-flagged.ensures.value in
    let r = ap (λ x. q - m * x) f in
    let d = c.total_demand.ensures in
    assess_17 s q m (sym c.if-is_some.ensures)
    (ap (λ x. leb q 2000000000 && leb m 2000000000 && leb (m * x) q) (sym f) ∙ sym c.if-not-charge_in_range.ensures)
    (spread_no (q - m * flagged (terms_in s.coordinators.list.items)) (demands s.coordinators.list.items) (omega arith) (omega arith))

pub returns-clause-rest : goal.returns-clause-rest
returns-clause-rest c =
    let s = c.args.self.now in
    let q = c.args.charge in
    let m = c.args.minimum in
    let f = c.count_flagged-flagged.ensures.value in
    let r = ap (λ x. q - m * x) f in (
      assess_none s q m (sym c.if-is_some.ensures)
          (ap (λ x. leb q 2000000000 && leb m 2000000000 && leb (m * x) q) (sym f) ∙ sym c.if-not-charge_in_range.ensures)
          (elim c.else-rest-gt0.branch [
            | else-rest-gt0-via-then-rest-gt0+else-total_demand-eq0 w ↦
                let d = w.total_demand.ensures in
                spread_carried (q - m * flagged (terms_in s.coordinators.list.items)) (demands s.coordinators.list.items) (omega (arith, w.if-total_demand-eq0.false))
            | else-rest-gt0-via-else-rest-gt0 w ↦
                spread_nothing (q - m * flagged (terms_in s.coordinators.list.items)) (demands s.coordinators.list.items) (omega (arith, w.if-rest-gt0.false))
          ]),
      r,
    )
