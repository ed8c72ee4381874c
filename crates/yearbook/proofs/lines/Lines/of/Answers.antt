use Rattle.std.proofs.Common.{◌++◌, [], ◌∷◌, ◌≤◌, ℕ, zero, suc, List, length, get_or, sym, ap, ap₂, ◌∙◌, arith, zero-add}
use Rattle.std.proofs.lemmas.List.FromFn.{length-map-range_with_len, map-range_with_len_more}
use Rattle.charges.specs.Rules.{Meaning, line, line_of, meaning}
use Rattle.sheet.specs.Sheets.{sheet_rows}
use Rattle.yearbook.proofs.lines.Lines.of.Goals as goal

-- one line more, none of them above m
low_push : (m : ℕ) (xs : List ℕ) (y : ℕ) → ((k : ℕ) → get_or xs k 0 ≤ m) → y ≤ m → (k : ℕ) → get_or (xs ++ y ∷ []) k 0 ≤ m
low_push m [] y h l zero = l
low_push m [] y h l (suc k) = omega arith
low_push m (x ∷ xs) y h l zero = h 0
low_push m (x ∷ xs) y h l (suc k) = low_push m xs y (λ j. h (suc j)) l k

pub push-requires : goal.push-requires
push-requires g c =
    let few = c.requires.few in
    let m : Meaning = meaning (g.R.ChargeRule.code c.args.rule.now) (g.R.ChargeRule.quantity c.args.rule.now) in
    let l = ap length c.loop-coordinator.invariant.value ∙ length-map-range_with_len (line_of m c.args.rate (sheet_rows c.args.sheet)) 0 c.loop-coordinator.coordinator in
    (omega arith, omega arith)

pub loop-coordinator-preserved : goal.loop-coordinator-preserved
unfolding line_of
loop-coordinator-preserved g c =
    let m : Meaning = meaning (g.R.ChargeRule.code c.args.rule.now) (g.R.ChargeRule.quantity c.args.rule.now) in
    let i = c.loop-coordinator.coordinator in
    let v = c.line_at.ensures.value ∙ ap (λ q. line q c.args.rate) c.coordinator_quantity.ensures.value in
    record {
      value = c.push.ensures.items ∙ ap₂ (λ (xs : List ℕ) (x : ℕ). xs ++ x ∷ []) c.loop-coordinator.invariant.value v ∙ sym (map-range_with_len_more (line_of m c.args.rate (sheet_rows c.args.sheet)) 0 i i (zero-add i));
      low = rw c.push.ensures.items (low_push 819200000000 c.loop-coordinator.cents.items c.line_at.result c.loop-coordinator.invariant.low c.line_at.ensures.low);
    }

pub invariant_of-result : goal.invariant_of-result
invariant_of-result g c =
    let few = c.requires.few in
    let m : Meaning = meaning (g.R.ChargeRule.code c.args.rule.now) (g.R.ChargeRule.quantity c.args.rule.now) in
    let l = ap length c.loop-coordinator.invariant.value ∙ length-map-range_with_len (line_of m c.args.rate (sheet_rows c.args.sheet)) 0 c.loop-coordinator.coordinator in
    record { few = omega arith; low = c.loop-coordinator.invariant.low }
