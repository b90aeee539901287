-- A queue's entries place by place: what a computed test of a state looks at
use Prim.Native.Nat.{ℕ, ◌<◌}
use mathlib.Core.Path.{◌≡◌, sym, ap, ◌∙◌}
use mathlib.Core.Option.{some}
use native.Mathlib.Omega.{arith}
use lib.ListN.{get_or}
use lib.Seq.{get_or-take}
use Rattle.queue.specs.Queues.{entry, blank, entries, held, key_in, Good}
use Rattle.queue.specs.declared.Queue.{Queue}
use Rattle.queue.specs.declared.Entry.{Entry}
use Rattle.queue.proofs.Entries.{get_or_pairs}
use Rattle.queue.proofs.Finding.{found_at, there}
use Rattle.queue.proofs.Keys.{length_held}

module _ (q : Queue) (g : Good q) where
  pub entry_is : (j : ℕ) → j < q.len → get_or (held q) j blank ≡ entry (get_or q.keys j 0) (get_or q.tasks j 0)
  entry_is j h =
      get_or-take q.len (entries q) j blank h
      ∙ get_or_pairs q.keys q.tasks j (omega (arith, g.keys_room, g.fits)) (omega (arith, g.tasks_room, g.fits))

  -- what holds of every place below the length holds of every task in the queue with its key
  pub by_places : (P : ℕ → ℕ → Type 0) → ((j : ℕ) → j < q.len → P (get_or q.tasks j 0) (get_or q.keys j 0)) → (t k : ℕ) → key_in q t ≡ some k → P t k
  unfolding key_in
  by_places P h t k e =
      let r = found_at t k (held q) e in
      let b : r.0 < q.len = omega (arith, r.1, length_held q g) in
      let z = sym (entry_is r.0 b) ∙ r.2 in
      let zt : get_or q.tasks r.0 0 ≡ t = ap (λ (x : Entry). x.task) z in
      let zk : get_or q.keys r.0 0 ≡ k = ap (λ (x : Entry). x.key.0) z in
      rw (zt, zk) at (h r.0 b)

  -- and the other way round
  pub at_places : (P : ℕ → ℕ → Type 0) → ((t k : ℕ) → key_in q t ≡ some k → P t k) → (j : ℕ) → j < q.len → P (get_or q.tasks j 0) (get_or q.keys j 0)
  unfolding key_in
  at_places P h j hj =
      h (get_or q.tasks j 0) (get_or q.keys j 0)
      (rw (entry_is j hj) at (there (held q) j (omega (arith, length_held q g)) (g.once (get_or (held q) j blank).task)))
