-- Moves of works and amounts are the same by their parts; what the moves leave of the queues
use mathlib.Core.Path.{◌≡◌, ◌∙◌, ap, refl}
use Prim.Native.Nat.{ℕ, ◌-◌, ◌<◌}
use native.Mathlib.Omega.{arith}
use Rattle.ground.specs.declared.Amount.{Amount}
use Rattle.queue.specs.declared.Entry.{Entry}
use Rattle.queue.specs.declared.Queue.{Queue}
use Rattle.queue.specs.Queues.{pop_of, top_key, top_task, least_of, push_of}
use Rattle.queue.proofs.Keys.{pop_len}
use Rattle.state.specs.Work.{Work, moved, rest_top, unqueue, park, place, give_top, seize_top}
use mathlib.Core.List.{List}
use lib.ListN.{set}
use Rattle.ground.specs.declared.Instant.{Instant}

pub work_is : (w : Work) {r v q u : Queue} {k l : List ℕ} → r ≡ v → q ≡ u → k ≡ l → moved w r q k ≡ moved w v u l
work_is w a b c i = moved w (a i) (b i) (c i)

-- a push of the same key and task
pub pushed : (q : Queue) {r : Queue} {k l t u : ℕ} → r ≡ push_of q k t → k ≡ l → t ≡ u → r ≡ push_of q l u
pushed q e x y = e ∙ (λ i. push_of q (x i) (y i))

-- a task taken out, by what becomes of its queue
pub rest_parts : (w : Work) {p o : ℕ} {r : Queue} {l : List ℕ} → (r ≡ pop_of w.running) × (l ≡ set w.slots p 0) → p ≡ o → moved w r w.waiting l ≡ rest_top o w
unfolding rest_top
rest_parts w e z = work_is w e.0 refl (e.1 ∙ ap (λ (x : ℕ). set w.slots x 0) z)

-- the amount from any instant to e, and from n to one
pub instant_up_to : {a : Amount} {k : Instant} {x : ℕ} (e : ℕ) → k ≡ record { 0 = x } → a ≡ record { 0 = e - k.0 } → a.0 ≡ e - x
instant_up_to e p q = ap (λ (y : Amount). y.0) q ∙ ap (λ (y : Instant). e - y.0) p

pub instant_since : {a : Amount} {k : Instant} {x : ℕ} (n : ℕ) → k ≡ record { 0 = x } → a ≡ record { 0 = k.0 - n } → a.0 ≡ x - n
instant_since n p q = ap (λ (y : Amount). y.0) q ∙ ap (λ (y : Instant). y.0 - n) p

-- THE SAME BY THEIR PARTS
pub unqueue_is : (w : Work) {q : Queue} → q ≡ pop_of w.waiting → moved w w.running q w.slots ≡ unqueue w
unfolding unqueue
unqueue_is w e = ap (λ (q : Queue). moved w w.running q w.slots) e

pub rest_is : {p q : ℕ} {w v : Work} → p ≡ q → w ≡ v → rest_top p w ≡ rest_top q v
rest_is x z i = rest_top (x i) (z i)

pub park_is : {t u a b : ℕ} {w v : Work} → t ≡ u → a ≡ b → w ≡ v → park t a w ≡ park u b v
park_is x y z i = park (x i) (y i) (z i)

pub place_is : {p q t u a b : ℕ} {w v : Work} → p ≡ q → t ≡ u → a ≡ b → w ≡ v → place p t a w ≡ place q u b v
place_is o x y z i = place (o i) (x i) (y i) (z i)

pub give_is : {p q : ℕ} {w v : Work} → p ≡ q → w ≡ v → give_top p w ≡ give_top q v
give_is o z i = give_top (o i) (z i)

pub seize_is : {t u a b : ℕ} {w v : Work} → t ≡ u → a ≡ b → w ≡ v → seize_top t a w ≡ seize_top u b v
seize_is x y z i = seize_top (x i) (y i) (z i)

-- THE QUEUES AFTER A MOVE
pub rest_runs : (p : ℕ) (w : Work) {v : Work} → 0 < w.running.len → v ≡ rest_top p w → v.running.len < w.running.len
unfolding rest_top
rest_runs p w h e = omega (arith, ap (λ (x : Work). x.running.len) e, pop_len w.running h)

pub rest_waits : (p : ℕ) (w : Work) {v : Work} → v ≡ rest_top p w → v.waiting.len ≡ w.waiting.len
unfolding rest_top
rest_waits p w e = ap (λ (x : Work). x.waiting.len) e

pub park_runs : (t a : ℕ) (w : Work) {v : Work} → v ≡ park t a w → v.running.len ≡ w.running.len
unfolding park
park_runs t a w e = ap (λ (x : Work). x.running.len) e

-- THE LEAST ENTRY OF A QUEUE: its task, and the amounts from its key to e and from n to its key
module _ (q : Queue) {x : Entry} (z : x ≡ least_of q) where
  pub task_is : x.task ≡ top_task q
  task_is = ap (λ (y : Entry). y.task) z

  pub up_to : {a : Amount} (e : ℕ) → a ≡ record { 0 = e - x.key.0 } → a.0 ≡ e - top_key q
  up_to e p = ap (λ (y : Amount). y.0) p ∙ ap (λ (y : Entry). e - y.key.0) z

  pub since : {a : Amount} (n : ℕ) → a ≡ record { 0 = x.key.0 - n } → a.0 ≡ top_key q - n
  since n p = ap (λ (y : Amount). y.0) p ∙ ap (λ (y : Entry). y.key.0 - n) z
