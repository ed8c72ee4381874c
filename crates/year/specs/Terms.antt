-- What a book is opened with, and when opening is refused.
use Rattle.std.specs.Prelude.{ℕ, ◌&&◌, ◌||◌, List, length, None, count_by, Option, ◌==◌, nat_eq, nat_le, slice_index}
use Rattle.questions.specs.Questions.{Refusal, ask, in_turn}

-- the demands and the flags of the coordinators; flag 1 marks a transmission operator without load
pub record Terms : Type 0 where
  pub demands : List ℕ
  pub flags : List ℕ

abbrev pub terms_of : List ℕ → List ℕ → Terms
terms_of demands flags = record { demands = demands; flags = flags }

abbrev pub count : Terms → ℕ
count t = length t.demands

abbrev pub demand_at : Terms → ℕ → ℕ
demand_at t coordinator = slice_index t.demands coordinator

abbrev pub flag_at : Terms → ℕ → ℕ
flag_at t coordinator = slice_index t.flags coordinator

-- how many coordinators are flagged
unfoldable pub flagged : Terms → ℕ
flagged t = count_by (λ flag. nat_eq flag 1) t.flags

unfoldable pub coordinator_refusal : Terms → ℕ → Option Refusal
coordinator_refusal t coordinator =
    ask (nat_le (demand_at t coordinator) 50000000 && nat_le (flag_at t coordinator) 1 && (flag_at t coordinator == 0 || demand_at t coordinator == 0)) 7 coordinator None

unfoldable pub open_refusal : Terms → Option Refusal
open_refusal t =
    ask (length t.demands == length t.flags && nat_le 1 (length t.demands) && nat_le (length t.demands) 64) 6 0
    (in_turn (count t) (coordinator_refusal t))
