use Rattle.std.proofs.Common.{◌≡◌, ℕ, ◌+◌, ◌≤◌, ◌-◌, sym, ap, ◌∙◌, arith}
use Rattle.std.proofs.lemmas.Result.{err_from_is_err_and}
use Rattle.charges.specs.Sums.{total}
use Rattle.year.specs.Spread.{spread}
use Rattle.year.specs.Terms.{Terms}
use Rattle.year.specs.Rc.{carrier_weights}
use Rattle.yearbook.specs.Coordinators.{rc_of, demand_of, demands, rc_raised, each_with}
use Rattle.yearbook.proofs.RcCalls.{default_refused, default_17, default_done, default_owed, others_demand, paid_owed, paid_terms}
use Rattle.yearbook.proofs.book.YearBook.default_on.Goals as goal

pub returns-in_err-owing-clause-taken : goal.returns-in_err-owing-clause-taken
returns-in_err-owing-clause-taken c =
    let p = err_from_is_err_and c.from_residual.result c.from_residual.ensures.1 in
    rw (p.1, p.2) (default_refused c.args.self.now c.args.debtor c.args.unpaid _ c.in_err-owing.ensures.asked)

-- the others' demand, as the code forms it
less : (all d w result owed : ℕ) → w + d ≡ all → result ≡ all → owed ≡ d → (owed ≤ result) × (result - owed ≡ w)
less all d w result owed e r f = (omega arith, omega arith)

pub overflow_sub-demand_of_others : goal.overflow_sub-demand_of_others
overflow_sub-demand_of_others c =
    let o = c.in_ok-owing.ensures.owes in
    let s = c.args.self.now in
    (less (total (demands s.coordinators.list.items)) _ _ _ _ (others_demand s c.args.debtor c.args.unpaid o.0)
    c.total_demand.ensures (c.from.ensures ∙ ap demand_of o.1)).0

pub returns-then-demand_of_others-eq0-clause-taken : goal.returns-then-demand_of_others-eq0-clause-taken
returns-then-demand_of_others-eq0-clause-taken c =
    let o = c.in_ok-owing.ensures.owes in
    let s = c.args.self.now in
    let e = ap rc_of o.1 in
    let w = less (total (demands s.coordinators.list.items)) _ _ _ _ (others_demand s c.args.debtor c.args.unpaid o.0)
    c.total_demand.ensures (c.from.ensures ∙ ap demand_of o.1) in
    default_17 s c.args.debtor c.args.unpaid o.0 o.2 o.3 (omega arith) (sym w.1 ∙ c.if-demand_of_others-eq0.true)

pub take_rc-requires : goal.take_rc-requires
take_rc-requires c =
    let o = c.in_ok-owing.ensures.owes in
    let e = ap rc_of o.1 in
    record { here = o.0; owes = omega arith }

pub carry-requires : goal.carry-requires
carry-requires c =
    let o = c.in_ok-owing.ensures.owes in
    let s = c.args.self.now in
    let k = c.args.debtor in
    let a = c.args.unpaid in
    let w = less (total (demands s.coordinators.list.items)) _ _ _ _ (others_demand s k a o.0)
    c.total_demand.ensures (c.from.ensures ∙ ap demand_of o.1) in
    let paid = c.take_rc.ensures in
    record {
      unpaid = o.3;
      owed = paid_owed s k a o.0 _ paid 2000000000 (let d = s.owed in let l = s.limited in omega arith);
      whole = w.1 ∙ ap (λ (ts : Terms). total (carrier_weights ts k)) (sym (paid_terms s k a o.0 _ paid));
    }

pub invariant_of-self : goal.invariant_of-self
invariant_of-self c =
    let o = c.in_ok-owing.ensures.owes in
    let s = c.args.self.now in
    let k = c.args.debtor in
    let a = c.args.unpaid in
    let e = ap rc_of o.1 in
    let w = less (total (demands s.coordinators.list.items)) _ _ _ _ (others_demand s k a o.0)
    c.total_demand.ensures (c.from.ensures ∙ ap demand_of o.1) in
    let paid = c.take_rc.ensures in
    let raised = c.carry.ensures
    ∙ ap (λ (ts : Terms). each_with rc_raised c.take_rc.new.self.list.items (spread a (carrier_weights ts k))) (paid_terms s k a o.0 _ paid) in
    let p = default_owed s k a o.0 o.2 o.3 (omega arith) (omega (arith, w.1, c.if-demand_of_others-eq0.false)) _ _ paid raised in
    record { owed = p; limited = s.limited }

pub returns-clause-taken : goal.returns-clause-taken
returns-clause-taken c =
    let o = c.in_ok-owing.ensures.owes in
    let s = c.args.self.now in
    let k = c.args.debtor in
    let a = c.args.unpaid in
    let e = ap rc_of o.1 in
    let w = less (total (demands s.coordinators.list.items)) _ _ _ _ (others_demand s k a o.0)
    c.total_demand.ensures (c.from.ensures ∙ ap demand_of o.1) in
    let paid = c.take_rc.ensures in
    let raised = c.carry.ensures
    ∙ ap (λ (ts : Terms). each_with rc_raised c.take_rc.new.self.list.items (spread a (carrier_weights ts k))) (paid_terms s k a o.0 _ paid) in
    default_done s k a o.0 o.2 o.3 (omega arith) (omega (arith, w.1, c.if-demand_of_others-eq0.false)) _ _ paid raised
