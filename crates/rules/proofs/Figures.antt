-- P1 to P10, and the figures beside them, hold of the rules
use Rattle.std.specs.Prelude.{if◌then◌else◌}
use mathlib.Core.Path.{◌≡◌, refl, sym, ◌∙◌, ap}
use mathlib.Core.List.{List, [], ◌∷◌}
use Prim.Native.Nat.{ℕ, zero, suc, ◌+◌, ◌*◌, ◌-◌, ◌≤◌, ◌<◌, min}
use native.Mathlib.Nat.{dvd_refl}
use native.Mathlib.Omega.{arith}
use lib.Dec.{lit≤}
use lib.ListN.{length}
use Rattle.rules.specs.Answers.{Answer, Done, RowExecution, Scale, TooSoon, number_of, is_done}
use Rattle.ground.specs.Sums.{sum_of}
use Rattle.rules.specs.Admission.{Verdict, admit}
use Rattle.rules.specs.Answered.{admits}
use Rattle.rules.specs.Calls.{arrive_answer}
use Rattle.rules.specs.Figures.{ArrivedAgo, Figures}
use Rattle.rules.specs.Listings.{row, scale_in}
use Rattle.rules.specs.Reasons.{InRange, ProcessorsOk, LengthOk, RowsOk, AdmitReason}
use Rattle.rules.specs.Scale.{gcd_in, gcd, lcm, scale_from, scale_of, share_of}
use Rattle.rules.specs.State.{State, blank, admitted, at, period}
use Rattle.rules.specs.Table.{Row, rows_of, shorter, table_bytes}
use Rattle.rules.proofs.Calls.{tick_of_lem}
use Rattle.rules.proofs.AddUp.{listings, handed, answered, histories}
use Rattle.rules.proofs.Holding.{together_is}
use Rattle.rules.proofs.Reading.{table_rows, length_table}
use Rattle.rules.proofs.Refusing.{admit_exact, arrive_exact}
use Rattle.rules.proofs.Scale.{scale_unique, share_at_most}
use Rattle.rules.proofs.Standing.{facts}
use mathlib.Core.Option.{some-injective}

-- a reason gives its number and row, and done gives the scale of the rows
told : (rows : List Row) (m : ℕ) (a : Answer) (i : ℕ) → AdmitReason (table_bytes rows) m a i → admits rows m ≡ (number_of a, i)
told rows m a i h = ap (λ (v : Verdict). (number_of v.answer, v.row)) (admit_exact (table_bytes rows) m a i h)

scale_told : (rows : List Row) (m : ℕ) → AdmitReason (table_bytes rows) m Done 0 → scale_in rows m ≡ scale_of (rows_of (table_bytes rows))
unfolding scale_in admit
scale_told rows m h =
    let rs = rows_of (table_bytes rows) in
    ap (λ (v : Verdict). (if is_done v.answer then admitted m rs else blank).scale) (admit_exact (table_bytes rows) m Done 0 h)

-- a table of one row
module _ (r : Row) (p : InRange r.period) (e : InRange r.exec) (d : InRange r.deadline) where
  rows_are : rows_of (table_bytes (r ∷ [])) ≡ r ∷ []
  rows_are = table_rows (r ∷ []) ((omega (arith, p.1), omega (arith, e.1), omega (arith, d.1)), tt)

  length_ok : LengthOk (length (table_bytes (r ∷ [])))
  length_ok = rw (length_table (r ∷ [])) (lit≤ tt, lit≤ tt, refl)

  scale_one : scale_of (r ∷ []) ≡ shorter r
  scale_one = sym (scale_unique (r ∷ []) (shorter r) (elim [ zero ↦ λ h. dvd_refl (shorter r) | suc j ↦ λ h. absurd (omega arith) ]) (λ c m. m 0 (omega arith)))

  one_admitted : r.exec ≤ shorter r → admits (r ∷ []) 1 ≡ (0, 0)
  unfolding sum_of
  one_admitted h =
      told (r ∷ []) 1 Done 0 (
        refl,
        (lit≤ tt, lit≤ tt),
        length_ok,
        rw rows_are ok,
        rw (rows_are, scale_one) (omega (arith, p)),
        rw (rows_are, scale_one) (omega (arith, share_at_most (shorter r) r h)),
      )
    where
      ok : RowsOk (r ∷ [])
      ok = elim [ zero ↦ λ _. ((p, e, d), h) | suc j ↦ λ hj. absurd (omega arith) ]

  one_refused : (m : ℕ) → ProcessorsOk m → shorter r < r.exec → admits (r ∷ []) m ≡ (4, 1)
  one_refused m ok h =
      let z : 1 - 1 ≡ 0 = refl in
      told (r ∷ []) m RowExecution 1 (lit≤ tt, rw rows_are (lit≤ tt), ok, length_ok, (λ j hj. absurd (omega arith)), rw rows_are (p, e, d), rw rows_are h)

-- a table of two rows, each with e = 1: q of the first is 1,048,576
module _ (m p d p' d' : ℕ) (ok : ProcessorsOk m) (a : InRange p) (b : InRange d) (a' : InRange p') (b' : InRange d') (first : min p d ≡ 1048576) where
  abbrev two : List Row
  two = row p 1 d ∷ row p' 1 d' ∷ []

  two_are : rows_of (table_bytes two) ≡ two
  two_are = table_rows two ((omega (arith, a.1), lit≤ tt, omega (arith, b.1)), ((omega (arith, a'.1), lit≤ tt, omega (arith, b'.1)), tt))

  two_long : LengthOk (length (table_bytes two))
  two_long = rw (length_table two) (lit≤ tt, lit≤ tt, refl)

  two_ok : RowsOk two
  two_ok = elim [ zero ↦ λ _. ((a, (lit≤ tt, lit≤ tt), b), omega arith) | suc zero ↦ λ _. ((a', (lit≤ tt, lit≤ tt), b'), omega arith) | suc (suc j) ↦ λ h. absurd (omega arith) ]

  two_scale : (q : ℕ) → min p' d' ≡ q → scale_of two ≡ lcm (lcm 1 1048576) q
  unfolding scale_of scale_from
  two_scale q e = rw (first, e)

  two_admitted : min p' d' ≡ 127 → (admits two m ≡ (0, 0)) × (scale_in two m ≡ 133169152)
  unfolding lcm gcd gcd_in sum_of share_of
  two_admitted second =
      let s = two_scale 127 second in
      let h : AdmitReason (table_bytes two) m Done 0 =
      (refl, ok, two_long, rw two_are two_ok, rw (two_are, s) (lit≤ tt), rw (two_are, s, first, second) (omega (arith, ok))) in
      (told two m Done 0 h, scale_told two m h ∙ rw two_are s)

  two_refused : min p' d' ≡ 129 → admits two m ≡ (5, 0)
  unfolding lcm gcd gcd_in
  two_refused second = told two m Scale 0 (refl, ok, two_long, rw two_are two_ok, rw (two_are, two_scale 129 second) (lit≤ tt))

pub figures : Figures
figures = record {
  listings = listings;
  handed = handed;
  answered = answered;
  histories = histories;
  p5 = two_admitted;
  p6 = two_refused;
  p7 = λ p d a b. one_admitted (row p (min p d) d) a (omega (arith, a, b), omega (arith, a)) b (omega arith);
  p8 = λ m p d ok a b h. one_refused (row p (min p d + 1) d) a (omega arith, omega arith) b m ok (omega arith);
  p9 = p9;
  p10 = p10;
}
  where
    p9 : (s : State) (task : ℕ) → ArrivedAgo s task (period (at (task - 1) s.tasks)) → number_of (arrive_answer s task) ≡ 0
    p9 s task B =
        let H = together_is s B.together in
        let C = B.came in
        let t = tick_of_lem s.now s.scale (C.0 + period (at (task - 1) s.tasks)) (facts s.tasks H.table).scale_pos C.2 in
        ap number_of (arrive_exact s task Done (B.together, B.known, C.2 ∙ ap (λ x. x * s.scale) (sym t), λ q. let z = some-injective q.0 C.0 (sym q.1 ∙ C.1) in omega (arith, q.2)))

    p10 : (s : State) (task : ℕ) → ArrivedAgo s task (period (at (task - 1) s.tasks) - 1) → number_of (arrive_answer s task) ≡ 9
    p10 s task B =
        let H = together_is s B.together in
        let C = B.came in
        let t = tick_of_lem s.now s.scale (C.0 + (period (at (task - 1) s.tasks) - 1)) (facts s.tasks H.table).scale_pos C.2 in
        let some_p = (H.table.ranges (task - 1) (omega (arith, B.known))).0.0 in
        ap number_of (arrive_exact s task TooSoon (B.together, B.known, C.2 ∙ ap (λ x. x * s.scale) (sym t), (C.0, C.1, omega arith)))
