-- The loop of run: what has been written, and what is left to do
use mathlib.Core.Path.{◌≡◌, refl, sym, ◌∙◌, ap, subst}
use mathlib.Core.List.{List, [], ◌++◌, append_assoc, append-nil}
use Prim.Native.Nat.{ℕ, suc, ◌+◌, ◌*◌, ◌-◌, ◌/◌, ◌≤◌, ◌<◌}
use native.Mathlib.Omega.{arith}
use lib.ListN.{length, take, drop, length-append, length-drop}
use lib.Seq.{drop-drop, take_all, drop-length}
use Rattle.rules.specs.Record.{record_bytes}
use Rattle.ground.specs.Bytes.{pasted}
use Rattle.ground.proofs.Bytes.{grown}
use Rattle.state.specs.declared.State.{State}
use Rattle.state.specs.Machine.{moved_of}
use Rattle.moves.specs.Whole.{Whole}
use Rattle.moves.proofs.Keeping.{step_whole}
use Rattle.inplace.specs.Run.{Went, went, filled_by}
use Rattle.inplace.proofs.RunSteps.{went_more, step_later, record_48}
use Rattle.rules.specs.Bounds.{clock}

-- what is done, and what is left
pub record Going (h : ℕ) (s₀ : State) (room₀ : List ℕ) (s : State) (room₁ : List ℕ) (left records : ℕ) : Type 0 where
  pub whole : Whole s
  pub scale : s.table.scale ≡ s₀.table.scale
  pub past : List ℕ
  pub size : length past ≡ records * 48
  pub room : room₁ ≡ past ++ drop (records * 48) room₀
  pub fits : (records + left) * 48 ≤ length room₀
  pub state : (went (length room₀ / 48) h s₀).state ≡ (went left h s).state
  pub count : (went (length room₀ / 48) h s₀).records ≡ records + (went left h s).records
  pub bytes : (went (length room₀ / 48) h s₀).bytes ≡ past ++ (went left h s).bytes

pub going_from : (h : ℕ) (s : State) (room : List ℕ) (n : ℕ) → n ≡ length room / 48 → Whole s → Going h s room s room n 0
going_from h s room n e W =
    subst (λ (k : ℕ). Going h s room s room k 0) (sym e)
    (record { whole = W; scale = refl; past = []; size = refl; room = refl; fits = omega arith; state = refl; count = omega arith; bytes = refl })

-- a part that runs to the end of the room, put back with the record before
part_back : (at : ℕ) (room b : List ℕ)
    → take at room ++ ((b ++ drop 48 (take (length room - at) (drop at room))) ++ drop (length room - at) (drop at room)) ≡ take at room ++ (b ++ drop 48 (drop at room))
part_back at room b =
    let n = length-drop at room in
    rw (take_all (length room - at) (drop at room) (omega (arith, n)), none, append-nil (b ++ drop 48 (drop at room)))
  where
    none : drop (length room - at) (drop at room) ≡ []
    none = ap (λ (k : ℕ). drop k (drop at room)) (sym (length-drop at room)) ∙ drop-length (drop at room)

module _ (h : ℕ) (s₀ : State) (room₀ : List ℕ) (s : State) (room : List ℕ) (left records : ℕ) (G : Going h s₀ room₀ s room left records) where
  pub going_length : length room ≡ length room₀
  going_length = omega (arith, ap length G.room, length-append G.past (drop (records * 48) room₀), G.size, length-drop (records * 48) room₀, G.fits)

  -- the part of the room that is left
  pub going_room : 0 < left → (records * 48 ≤ length room) × (48 ≤ length room - records * 48)
  going_room m = (omega (arith, m, G.fits, going_length), omega (arith, m, G.fits, going_length))

  pub going_on : h ≤ clock → (n : ℕ) → left ≡ suc n → s.now.0 < h * s.table.scale
      → (s' : State) → s' ≡ (moved_of s h).state → (part : List ℕ) → part ≡ record_bytes (moved_of s h).rec ++ drop 48 (take (length room - records * 48) (drop (records * 48) room))
      → Going h s₀ room₀ s' (take (records * 48) room ++ (part ++ drop (length room - records * 48) (drop (records * 48) room))) n (records + 1)
  going_on hc l el lt s' es part ep =
      let b = record_bytes (moved_of s h).rec in
      let n = record_48 s h G.whole in
      let at = records * 48 in
      let tail : drop 48 (drop at room) ≡ drop (at + length b) room = drop-drop 48 at room ∙ ap (λ (k : ℕ). drop (at + k) room) (sym n) in
      let seen : take at room ++ (part ++ drop (length room - at) (drop at room)) ≡ (G.past ++ b) ++ drop (at + length b) room₀ =
      ap (λ (q : List ℕ). take at room ++ (q ++ drop (length room - at) (drop at room))) ep ∙ part_back at room b ∙ sym (append_assoc (take at room) b (drop 48 (drop at room))) ∙ ap (λ (q : List ℕ). take at room ++ b ++ q) tail ∙ ap (λ (l : List ℕ). pasted l at b) G.room ∙ grown G.past b room₀ at G.size (omega (arith, G.fits)) in
      let on : at + length b ≡ (records + 1) * 48 = omega (arith, n) in
      let w = one l left el lt in
      let M = step_later s h G.whole lt hc in
      record {
        whole = subst Whole (sym es) (step_whole s h G.whole lt hc).whole;
        scale = ap (λ (k : State). k.table.scale) es ∙ M.1 ∙ G.scale;
        past = G.past ++ b;
        size = omega (arith, length-append G.past b, n, G.size);
        room = seen ∙ ap (λ (k : ℕ). (G.past ++ b) ++ drop k room₀) on;
        fits = omega (arith, G.fits, el);
        state = G.state ∙ ap (λ (x : Went). x.state) w ∙ ap (λ (k : State). (went l h k).state) (sym es);
        count = G.count ∙ ap (λ (x : Went). records + x.records) w ∙ ap (λ (k : State). records + suc (went l h k).records) (sym es) ∙ omega arith;
        bytes = G.bytes ∙ ap (λ (x : Went). G.past ++ x.bytes) w ∙ sym (append_assoc G.past b (went l h (moved_of s h).state).bytes) ∙ ap (λ (k : State). (G.past ++ b) ++ (went l h k).bytes) (sym es);
      }
    where
      one : (n l : ℕ) → l ≡ suc n → s.now.0 < h * s.table.scale
          → went l h s ≡ record { state = (went n h (moved_of s h).state).state; records = suc (went n h (moved_of s h).state).records; bytes = record_bytes (moved_of s h).rec ++ (went n h (moved_of s h).state).bytes }
      one n l q lt = ap (λ (k : ℕ). went k h s) q ∙ went_more n h s lt

  -- no step is left
  module _ (w : went left h s ≡ record { state = s; records = 0; bytes = [] }) where
    pub going_end : (s ≡ (went (length room₀ / 48) h s₀).state) × (records ≡ (went (length room₀ / 48) h s₀).records) × (room ≡ filled_by s₀ h room₀)
    going_end =
        let b : (went (length room₀ / 48) h s₀).bytes ≡ G.past = G.bytes ∙ ap (λ (x : Went). G.past ++ x.bytes) w ∙ append-nil G.past in (
          sym (G.state ∙ ap (λ (x : Went). x.state) w),
          omega (arith, G.count, ap (λ (x : Went). x.records) w),
          G.room ∙ ap (λ (k : ℕ). G.past ++ drop k room₀) (sym G.size) ∙ ap (λ (q : List ℕ). q ++ drop (length q) room₀) (sym b),
        )
