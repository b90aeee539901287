-- What a turn hands back is what its definition says; nothing but a run moves the present
use Rattle.std.specs.Prelude.{Ok, Err, if◌then◌else◌}
use mathlib.Core.Path.{◌≡◌, refl, ap, subst, sym, ◌∙◌}
use mathlib.Core.Bool.{Bool, true}
use mathlib.Core.List.{List, []}
use Prim.Native.Nat.{ℕ, ◌/◌, ◌<◌}
use native.Mathlib.Omega.{arith}
use lib.ListN.{length}
use Rattle.moves.proofs.Keeping.{together_of}
use Rattle.rules.specs.Answers.{Answer, is_done}
use Rattle.rules.specs.Admission.{admit_verdict}
use Rattle.table.specs.Tabled.{tabled_of}
use Rattle.state.specs.declared.State.{State}
use Rattle.admission.specs.declared.Admitted.{Admitted}
use Rattle.admission.specs.Admit.{blank_state, admit_of}
use Rattle.calls.specs.declared.Arrived.{Arrived}
use Rattle.calls.specs.declared.Ran.{Ran}
use Rattle.calls.specs.Arrive.{arrive_of}
use Rattle.calls.specs.Run.{run_of}
use Rattle.refusals.specs.Step.{Ahead}
use Rattle.inplace.specs.Run.{went}
use Rattle.inplace.proofs.RunSteps.{run_later, run_most}
use Rattle.text.specs.Form.{Checked, form_of}
use Rattle.text.specs.Meaning.{items_of, processors_in, table_of}
use Rattle.course.specs.declared.Cursor.{Cursor}
use Rattle.course.specs.declared.Deed.{Deed}
use Rattle.course.specs.declared.Turned.{Turned}
use Rattle.course.specs.Turns.{admitted_on, admitted_by, admitted_of, start_by, start_of, arrival_on, arrival_by, arrival_of, ran_on, ran_by, ran_of, deed_of, turn_by, room_by, turn_of, turn_room}
use Rattle.course.specs.Moves.{Moves, instants, Falls}
use Rattle.course.proofs.Falling.{falls}

pub first_blank : (admit_of [] 0).state ≡ blank_state
unfolding admit_of tabled_of admit_verdict
first_blank = refl

-- by the answer x
pub admitted_is : (text : List ℕ) (c : Cursor) (a : Admitted) (x : Answer) (b : List ℕ) (m : ℕ) → a ≡ admit_of b m → b ≡ table_of text → m ≡ processors_in (items_of text) → a.answer ≡ x
    → admitted_on text c a.state a.row x ≡ admitted_of text c
unfolding admitted_of
admitted_is text c a x b m e eb em ex =
    ap (admitted_on text c a.state a.row) (sym ex) ∙ ap (admitted_by text c) (e ∙ ap (λ (l : List ℕ). admit_of l m) eb ∙ ap (admit_of (table_of text)) em)

pub start_is : (text : List ℕ) (c : Cursor) (f x : Checked) → f ≡ form_of text → f ≡ x → start_by text c x ≡ start_of text c
unfolding start_of
start_is text c f x e ex = ap (start_by text c) (sym ex ∙ e)

pub arrival_is : (c : Cursor) (task next : ℕ) (a : Arrived) (x : Answer) → a ≡ arrive_of c.state task → a.answer ≡ x → arrival_on c next a.state x ≡ arrival_of c task next
unfolding arrival_of
arrival_is c task next a x e ex = ap (arrival_on c next a.state) (sym ex) ∙ ap (arrival_by c next) e

pub arrival_moves : (c : Cursor) (task next n : ℕ) → Moves c (arrival_of c task next) n
unfolding arrival_of
arrival_moves c task next n = go (arrive_of c.state task).answer
  where
    go : (x : Answer) → Moves c (arrival_on c next (arrive_of c.state task).state x) n
    go (Ok u) = tt
    go (Err refusal) = tt

pub ran_moves : (c : Cursor) (tick n : ℕ) → (is_done (run_of c.state tick n).answer ≡ true → Ahead c.state tick n) → Moves c (ran_of c tick n) n
unfolding ran_of run_of
ran_moves c tick n ahead = go (run_of c.state tick n).answer refl
  where
    go : (x : Answer) → (run_of c.state tick n).answer ≡ x → Moves c (ran_on c (run_of c.state tick n).state (run_of c.state tick n).records x) n
    go (Ok u) e =
        let d : is_done (run_of c.state tick n).answer ≡ true = ap is_done e in
        let A = ahead d in
        let most = run_most c.state tick n in
        let there : (run_of c.state tick n).state ≡ (went (n / 48) tick c.state).state = ap (λ (b : Bool). if b then (went (n / 48) tick c.state).state else c.state) d in
        let later : c.state.now.0 < (run_of c.state tick n).state.now.0 = subst (λ (x : State). c.state.now.0 < x.now.0) (sym there) (run_later tick n c.state A).0 in
        ((together_of A.whole).table.processors.1, omega (arith, most), later)
    go (Err refusal) e = tt

pub ran_is : (c : Cursor) (tick n : ℕ) (r : Ran) (x : Answer) → r ≡ run_of c.state tick n → r.answer ≡ x → (is_done r.answer ≡ true → Ahead c.state tick n)
    → (ran_on c r.state r.records x ≡ ran_of c tick n) × Moves c (ran_on c r.state r.records x) n
ran_is c tick n r x e ex ahead =
    let same : ran_on c r.state r.records x ≡ ran_of c tick n = unfold ran_of in (ap (ran_on c r.state r.records) (sym ex) ∙ ap (ran_by c) e) in
    (same, subst (λ (t : Turned). Moves c t n) (sym same) (ran_moves c tick n (λ d. ahead (ap (λ (y : Ran). is_done y.answer) e ∙ d))))

pub start_moves : (text : List ℕ) (c : Cursor) (n : ℕ) → Moves c (start_of text c) n
unfolding start_of admitted_of
start_moves text c n = go (form_of text)
  where
    a : Admitted
    a = admit_of (table_of text) (processors_in (items_of text))

    by : (x : Answer) → Moves c (admitted_on text c a.state a.row x) n
    by (Ok u) = tt
    by (Err refusal) = tt

    go : (f : Checked) → Moves c (start_by text c f) n
    go (Ok u) = unfold admitted_of in (by a.answer)
    go (Err flaw) = tt

-- whatever is due
pub turned_by : (text : List ℕ) (c : Cursor) (room room' : List ℕ) (due d : Deed) (t : Turned) → due ≡ deed_of text c → due ≡ d → t ≡ turn_by d text c (length room) → room' ≡ room_by d c room → c.state.now.0 < instants → Moves c t (length room)
    → ((t ≡ turn_of text c (length room)) × (room' ≡ turn_room text c room)) × (Moves c t (length room) × Falls text c t.cursor)
turned_by text c room room' due d t e ed et er small M =
    let same : t ≡ turn_of text c (length room) = unfold turn_of in (et ∙ ap (λ (x : Deed). turn_by x text c (length room)) (sym ed ∙ e)) in
    let rest : room' ≡ turn_room text c room = unfold turn_room in (er ∙ ap (λ (x : Deed). room_by x c room) (sym ed ∙ e)) in
    ((same, rest), (M, falls text c (length room) t same small M))
