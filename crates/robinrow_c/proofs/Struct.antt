-- The struct and the state stand for one another
use Rattle.std.specs.Prelude.{if◌then◌else◌}
use mathlib.Core.Path.{◌≡◌, refl, sym, ap, ◌∙◌}
use mathlib.Core.Bool.{Bool, true, false, ◌&&◌}
use mathlib.Core.List.{map, List}
use Prim.Native.Nat.{ℕ, ◌+◌, ◌-◌}
use lib.Dec.{leb, ltb}
use lib.ListN.{get_or}
use Rattle.rules.specs.Answers.{is_done}
use Rattle.flags.specs.Flags.{bit, flag, flags_ok}
use Rattle.flags.proofs.Flags.{both, flag_bit, flags_bits, bit_flag, bits_flags, bits_ok}
use Rattle.state.specs.declared.State.{State}
use Rattle.state.specs.Machine.{tick_at, woken, work_of, amount_at, joined, arrived_of}
use Rattle.state.specs.Work.{first_idle}
use Rattle.state.proofs.Arriving.{frame_joins}
use Rattle.refusals.specs.Arrive.{arrive_answer_of}
use Rattle.inplace.specs.Arrive.{arrive_state_of}
use Rattle.robinrow_c.specs.Struct.{Struct, flagged, state_of, struct_of}

-- the struct of a state has flags, and stands for it
pub struct_flagged : (s : State) → flagged (struct_of s) ≡ true
struct_flagged s = rw (bits_ok s.jobs.awake, bits_ok s.jobs.arrived) (going s.going)
  where
    going : (b : Bool) → (leb (bit b) 1 && (true && true)) ≡ true
    going true = refl
    going false = refl

pub struct_state : (s : State) → state_of (struct_of s) ≡ s
struct_state s = rw (flags_bits s.jobs.awake, flags_bits s.jobs.arrived, flag_bit s.going)

-- the flags of a struct, by what was read of its columns
pub flagged_by : (going : ℕ) (awake arrived : List ℕ) (a b t : Bool) → a ≡ flags_ok awake → b ≡ flags_ok arrived → t ≡ (leb going 1 && (a && b)) → (leb going 1 && (flags_ok awake && flags_ok arrived)) ≡ t
flagged_by going awake arrived a b t e f g = sym (g ∙ ap (λ x. leb going 1 && (x && b)) e ∙ ap (λ x. leb going 1 && (flags_ok awake && x)) f)

-- what flags say, one by one
module _ (c : Struct) (ok : flagged c ≡ true) where
  pub going_ok : leb c.going 1 ≡ true
  going_ok = (both (leb c.going 1) (flags_ok c.awake && flags_ok c.arrived) ok).0

  columns_ok : (flags_ok c.awake ≡ true) × (flags_ok c.arrived ≡ true)
  columns_ok = both (flags_ok c.awake) (flags_ok c.arrived) (both (leb c.going 1) (flags_ok c.awake && flags_ok c.arrived) ok).1

  pub going_back : bit (flag c.going) ≡ c.going
  going_back = bit_flag c.going going_ok

  pub awake_back : map bit (map flag c.awake) ≡ c.awake
  awake_back = bits_flags c.awake columns_ok.0

  pub arrived_back : map bit (map flag c.arrived) ≡ c.arrived
  arrived_back = bits_flags c.arrived columns_ok.1

  -- a struct with flags is that of the state that it stands for
  pub state_struct : struct_of (state_of c) ≡ c
  state_struct = rw (going_back, awake_back, arrived_back)

-- an arrival moves neither the present nor the plane
pub record Stands (s k : State) : Type 0 where
  pub present : k.now.0 ≡ s.now.0
  pub going : k.going ≡ s.going
  pub end : k.end ≡ s.end

pub arrive_stands : (s : State) (task : ℕ) → Stands s (arrive_state_of s task)
unfolding arrived_of joined
arrive_stands s task = taken (is_done (arrive_answer_of s task))
  where
    i : ℕ
    i = task - 1

    here : Stands s (woken s i (tick_at s))
    here = record { present = refl; going = refl; end = refl }

    in_plane : Stands s (joined (woken s i (tick_at s)) i)
    in_plane = record { present = (frame_joins (first_idle w.table.m w.slots) (i + 1) (amount_at w i) (ltb (get_or w.table.share i 0) w.table.scale) (work_of w)).now; going = refl; end = refl }
      where
        w : State
        w = woken s i (tick_at s)

    came : (b : Bool) → Stands s (if b then joined (woken s i (tick_at s)) i else woken s i (tick_at s))
    came true = in_plane
    came false = here

    taken : (b : Bool) → Stands s (if b then arrived_of s i else s)
    taken true = came s.going
    taken false = record { present = refl; going = refl; end = refl }
