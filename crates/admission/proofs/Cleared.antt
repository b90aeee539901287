-- Cleared places and an admitted table are the state that admission hands back
use mathlib.Core.Path.{◌≡◌, ◌∙◌, ap}
use mathlib.Core.Bool.{Bool, false}
use mathlib.Core.List.{List}
use Prim.Native.Nat.{ℕ}
use lib.ListN.{replicate}
use Rattle.queue.specs.Queues.{empty_queue}
use Rattle.queue.specs.declared.Queue.{Queue}
use Rattle.rules.specs.Answers.{Answer}
use Rattle.table.specs.declared.Table.{Table}
use Rattle.table.specs.Tabled.{Tabled, tabled_of}
use Rattle.state.specs.declared.State.{State}
use Rattle.state.specs.declared.Jobs.{Jobs}
use Rattle.state.specs.Machine.{no_slots}
use Rattle.moves.specs.Fresh.{fresh_state}
use Rattle.admission.specs.declared.Admitted.{Admitted}
use Rattle.admission.specs.Admit.{admit_of}

-- the parts, put together
abbrev parts : Answer → ℕ → ℕ → ℕ → ℕ → List ℕ → List ℕ → List ℕ → List ℕ → List ℕ → Jobs → ℕ → ℕ → List ℕ → List ℕ → List ℕ → List ℕ → List ℕ → Admitted
parts a row n m l ps es ds ss os jobs rn wn rk rt wk wt slots =
    record {
      answer = a;
      row = row;
      state =
          record {
            table = record { period = ps; exec = es; deadline = ds; share = ss; order = os; count = n; m = m; scale = l };
            now = record { 0 = 0 };
            going = false;
            end = 0;
            jobs = jobs;
            running = record { keys = rk; tasks = rt; len = rn };
            waiting = record { keys = wk; tasks = wt; len = wn };
            slots = slots;
          };
    }

pub cleared_admits : (bytes : List ℕ) (m : ℕ) (a : Answer) (row : ℕ) (table : Table) (awake arrived : List Bool) (last : List ℕ) (running waiting : Queue) (slots : List ℕ)
    → awake ≡ replicate 128 false → arrived ≡ replicate 128 false → last ≡ replicate 128 0 → running ≡ empty_queue → waiting ≡ empty_queue → slots ≡ no_slots
    → ◌≡◌ {A = Tabled} (record { answer = a; row = row; table = table }) (tabled_of bytes m)
    → ◌≡◌ {A = Admitted}
    (record {
      answer = a;
      row = row;
      state =
          record {
            table = table;
            now = record { 0 = 0 };
            going = false;
            end = 0;
            jobs = record { awake = awake; arrived = arrived; last = last };
            running = running;
            waiting = waiting;
            slots = slots;
          };
    })
    (admit_of bytes m)
unfolding admit_of
cleared_admits bytes m a row table awake arrived last running waiting slots e f l q w s t =
    ap (λ (x : State). record { answer = a; row = row; state = x })
    (λ i. record { table = table; now = record { 0 = 0 }; going = false; end = 0; jobs = record { awake = e i; arrived = f i; last = l i }; running = q i; waiting = w i; slots = s i })
    ∙ ap (λ (x : Tabled). record { answer = x.answer; row = x.row; state = fresh_state x.table }) t

-- what is admitted, from the same parts
pub admitted_same : {a a' : Answer} {row row' : ℕ} (n m l : ℕ) {ps ps' es es' ds ds' ss ss' os os' : List ℕ} (jobs : Jobs) (rn wn : ℕ) {rk rk' rt rt' wk wk' wt wt' slots slots' : List ℕ}
    → a ≡ a' → row ≡ row' → ps ≡ ps' → es ≡ es' → ds ≡ ds' → ss ≡ ss' → os ≡ os' → rk ≡ rk' → rt ≡ rt' → wk ≡ wk' → wt ≡ wt' → slots ≡ slots'
    → ◌≡◌ {A = Admitted} (parts a row n m l ps es ds ss os jobs rn wn rk rt wk wt slots) (parts a' row' n m l ps' es' ds' ss' os' jobs rn wn rk' rt' wk' wt' slots')
admitted_same n m l jobs rn wn ea er ep ee ed es eo erk ert ewk ewt esl =
    λ i. parts (ea i) (er i) n m l (ep i) (ee i) (ed i) (es i) (eo i) jobs rn wn (erk i) (ert i) (ewk i) (ewt i) (esl i)
