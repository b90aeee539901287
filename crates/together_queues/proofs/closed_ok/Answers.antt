use Rattle.std.proofs.Common.{rules}
use mathlib.Core.Path.{◌≡◌, sym, ◌∙◌, ap}
use mathlib.Core.Bool.{◌&&◌}
use Prim.Native.Nat.{ℕ, ◌%◌}
use borrow.Author.Tests.{eq-eqb}
use lib.Dec.{eqb}
use Rattle.queue.specs.Lent.{at, queue_seen}
use Rattle.state.specs.Sound.{no_marks, all_fresh, all_marked, runs_ok, slots_ok, sound_by}
use Rattle.together_rows.proofs.Folds.{and_next, second_holds}
use Rattle.together_queues.proofs.Planes.{closed_sound}
use Rattle.together_queues.proofs.closed_ok.Goals as goal

pub returns-then-crew-eq0-2 : goal.returns-then-crew-eq0-2
returns-then-crew-eq0-2 c =
    record {
      is = let p = c.requires.small in
          let t = c.args.table in
          let now = c.args.present.0 in
          let run = queue_seen c.args.crew.running in
          let n = c.args.crew.waiting.len in
          let slots = c.args.crew.slots.now in
          let z : now % t.scale ≡ 0 = search rules in
          let r : run.len ≡ 0 = search rules in
          let w : n ≡ 0 = search rules in
          λ end awake wk wt.
          c.seats_ok.ensures.is
          ∙ ap (λ (x : ℕ). slots_ok t.m slots && (all_fresh t.rows.count no_marks slots no_marks && runs_ok now (all_marked slots no_marks) run.keys run.tasks x)) r
          ∙ sym (closed_sound t.rows.count t.m now end awake run.keys run.tasks wk wt slots p.0 p.1)
          ∙ ap (λ (x : ℕ). sound_by t.rows.count t.m now end awake (at run.keys run.tasks x) (at wk wt 0) slots) (sym r)
          ∙ ap (λ (x : ℕ). sound_by t.rows.count t.m now end awake run (at wk wt x) slots) (sym w)
          ∙ sym (second_holds (sound_by t.rows.count t.m now end awake run (at wk wt n) slots) _ (and_next (eqb (now % t.scale) 0) _ (eq-eqb _ _ z) ∙ and_next (eqb run.len 0) _ (eq-eqb _ _ r) ∙ eq-eqb _ _ w));
    }
