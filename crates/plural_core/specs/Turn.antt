-- One instruction of an instance over a flat memory: its effect, the guard, the traps in their order, the budget.
-- (This project's own, over RV32IM.)
use Rattle.std.specs.Prelude.{ℕ, zero, suc, ◌+◌, ◌/◌, ◌%◌, List, [], ◌∷◌, replicate, slice_index, slice_set, Bool, nat_le, if◌then◌else◌, ◌==◌, Option, Some, None}
use Rattle.plural_core.specs.Arithmetic.{sum_of}
use Rattle.plural_core.specs.Subword.{size_of, part_of, merged}
use Rattle.plural_core.specs.Act.{Act, act, get, put}
use Rattle.plural_core.specs.Act as a
use Rattle.plural_regions.specs.Rights.{may_read, may_write}
use Rattle.plural_regions.specs.declared.region.Region.{Region}
use Rattle.plural_core.specs.declared.subword.Width.{Width}
use Rattle.plural_core.specs.declared.subword.Width.TheVariants as width
use Rattle.plural_core.specs.declared.end.End.{End}
use Rattle.plural_core.specs.declared.end.End.TheVariants as end
use Rattle.plural_core.specs.declared.hart.Turn.{Turn}
use Rattle.plural_core.specs.declared.hart.Turn.TheVariants as outcome

-- The state of an instance: its registers, pc, count of completed instructions, and its end or none.
pub record State : Type 0 where
  pub registers : List ℕ
  pub pc : ℕ
  pub count : ℕ
  pub over : Option End

-- What an instance runs and may do: the code, its task's regions, its number and its budget.
pub record Place : Type 0 where
  pub code : List ℕ
  pub regions : List Region
  pub k : ℕ
  pub budget : ℕ

-- What turns lead to: the state and memory after them, the words loaded from and the stores made, in order.
pub record Step : Type 0 where
  pub state : State
  pub memory : List ℕ
  pub loads : List ℕ
  pub stores : List (ℕ × ℕ)

-- The end of an instruction that brings the count here: exhausted if this is the budget, else none.
abbrev pub spent : ℕ → ℕ → Option End
spent budget count = if count == budget then Some end.Exhausted else None

-- An instruction completes with these registers and this pc, and counts one.
abbrev pub going : Place → State → List ℕ → ℕ → State
going p s x pc = record { registers = x; pc = pc; count = s.count + 1; over = spent p.budget (s.count + 1) }

-- An instruction traps with this cause: nothing changes but the end, which has the pc.
abbrev pub trapped : State → List ℕ → ℕ → Step
trapped s m cause = record {
  state = record s { over = Some (end.Trap cause s.pc) };
  memory = m;
  loads = [];
  stores = [];
}

-- A load completes: one load access to the word, and its part in register rd.
abbrev pub loaded : Place → State → List ℕ → ℕ → Width → Bool → ℕ → Step
loaded p s m address width sign rd =
    record {
      state = going p s (put s.registers rd (part_of width sign (slice_index m (address / 4)) address)) (sum_of s.pc 4);
      memory = m;
      loads = address / 4 ∷ [];
      stores = [];
    }

-- The load accesses of a store: one of less than a word loads its word first.
abbrev pub loads_of : Width → ℕ → List ℕ
loads_of width.Word address = []
loads_of _ address = address / 4 ∷ []

-- A store completes: one store of the whole word with its bytes changed.
abbrev pub stored : Place → State → List ℕ → ℕ → Width → ℕ → Step
stored p s m address width value =
    let v = merged width (slice_index m (address / 4)) address value in
    record {
      state = going p s s.registers (sum_of s.pc 4);
      memory = slice_set m (address / 4) v;
      loads = loads_of width address;
      stores = (address / 4, v) ∷ [];
    }

-- The end with code 0, or with code 1.
abbrev pub code_of : ℕ → End
code_of zero = end.Code0
code_of (suc n) = end.Code1

-- Ecall ends the instance with code x10 if that is 0 or 1, and counts one; else it traps with cause 9.
abbrev pub finished : State → List ℕ → Step
finished s m =
    if nat_le (get s.registers 10) 1 then
    record {
      state = record s { count = s.count + 1; over = Some (code_of (get s.registers 10)) };
      memory = m;
      loads = [];
      stores = [];
    }
    else trapped s m 9

-- What an effect does under the guard: a load traps with cause 4 if it isn't aligned and 5 if its word may not
-- be read, a store with 6 if it isn't aligned and 7 if its word may not be written.
abbrev pub does : Place → State → List ℕ → Act → Step
does p s m (a.Go x pc) = record { state = going p s x pc; memory = m; loads = []; stores = [] }
does p s m (a.Read address width sign rd) =
    if address % size_of width == 0 then
    (if may_read p.regions p.k (address / 4) then loaded p s m address width sign rd else trapped s m 5)
    else trapped s m 4
does p s m (a.Write address width value) =
    if address % size_of width == 0 then
    (if may_write p.regions p.k (address / 4) then stored p s m address width value else trapped s m 7)
    else trapped s m 6
does p s m a.Finish = finished s m
does p s m (a.Trap cause) = trapped s m cause

-- The turn of an instance: one instruction.
unfoldable pub turn : Place → State → List ℕ → Step
turn p s m = does p s m (act p.code s.registers s.pc)

-- A core: the state, number and budget of the instance that it runs.
pub record Core : Type 0 where
  pub state : State
  pub k : ℕ
  pub budget : ℕ

-- Where a core runs.
abbrev pub place_of : List ℕ → List Region → Core → Place
place_of code regions c = record { code = code; regions = regions; k = c.k; budget = c.budget }

-- What an effect does, under the guard, for a core over these regions and this memory.
abbrev pub does_at : List Region → Core → List ℕ → Act → Step
does_at regions c m effect = does (place_of [] regions c) c.state m effect

-- The turn of a core over this code, these regions and this memory.
abbrev pub turn_of : List ℕ → List Region → Core → List ℕ → Step
turn_of code regions c m = turn (place_of code regions c) c.state m

-- What a turn answers: the end if there is one.
abbrev pub outcome_of : Option End → Turn
outcome_of None = outcome.Going
outcome_of (Some e) = outcome.Over e

-- The start of an instance: pc at the entry, x10 its number, x11 the quota, all other registers and the count 0.
abbrev pub start_of : (entry k q budget : ℕ) → Core
start_of entry k q budget =
    record {
      state = record {
        registers = slice_set (slice_set (replicate 32 0) 10 k) 11 q;
        pc = entry;
        count = 0;
        over = None;
      };
      k = k;
      budget = budget;
    }
