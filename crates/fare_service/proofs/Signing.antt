-- Who made which visit to a book. A sign is a visit with the worker that made it; a visit that no
-- joined worker made is signed by nobody, who has a number above all workers.
use Rattle.std.proofs.Common.{refl, sym, ◌∙◌, ap, inl, inr, subst, arith, eq-eqb, ne_eqb}
use Rattle.fare_service.specs.{Headline.Signed, Headline.by_worker, Shares.made_visits}
use Rattle.fare_service.specs.inside.Joining.{IsSign, AreSigns, AreJoined}
use Rattle.histories.specs.declared.entry.Entry.{Entry}
use Rattle.shared_books.proofs.MarkLists.{made_at-few, made_few}
use Rattle.shared_books.specs.Marks.{mark, visits_of, joined_marks, Apart, Begins, made_from}
use Rattle.shared_books.specs.{Marks.numbered, declared.turns.rule.Mark.Mark}
use Rattle.std.proofs.Math.Bool.{or-false, or-true}
use Rattle.std.proofs.lemmas.Bool.{ltb-true, Decides.nat_tests}
use Rattle.std.proofs.lemmas.List.{length-map, Elements.All-nil, Elements.All-cons}
use Rattle.std.specs.Prelude.{ℕ, suc, ◌≡◌, ◌≢◌, ◌⊎◌, ◌+◌, ◌<◌, ◌≤◌, ◌==◌, ◌||◌, nat_lt, Bool, true}
use Rattle.std.specs.Prelude.{false, cond, List, [], ◌∷◌, ◌++◌, length, map, filter, All}

abbrev pub sign : ℕ → List Entry → Signed
sign worker entries = record { worker = worker; entries = entries }

-- the signs with those of worker i, who has these marks
abbrev pub signed : ℕ → ℕ → List Signed → List Mark → List Signed
signed i nobody signs [] = signs
signed i nobody [] (m ∷ marks) = sign (cond m.mine i nobody) m.visit ∷ signed i nobody [] marks
signed i nobody (s ∷ signs) (m ∷ marks) =
    sign (cond m.mine i s.worker) s.entries ∷ signed i nobody signs marks

pub merged-nil : (marks : List Mark) → joined_marks marks [] ≡ marks
merged-nil [] = refl
merged-nil (m ∷ marks) = refl

tail_begins : (x y : List Entry) (xs ys : List (List Entry)) → Begins (x ∷ xs) (y ∷ ys)
    → (x ≡ y) × Begins xs ys
tail_begins x y xs ys (more, e) =
    ((let h : x ≡ y = cc in h), (more, (let t : ys ≡ xs ++ more = cc in t)))

both_begin : (x y : List Entry) (xs ys : List (List Entry))
    → Begins (x ∷ xs) (y ∷ ys) ⊎ Begins (y ∷ ys) (x ∷ xs) → (x ≡ y) × (Begins xs ys ⊎ Begins ys xs)
both_begin x y xs ys (inl b) = let (e, t) = tail_begins x y xs ys b in (e, inl t)
both_begin x y xs ys (inr b) = let (e, t) = tail_begins y x ys xs b in (sym e, inr t)

lt_suc : (w i : ℕ) → nat_lt w i ≡ true → nat_lt w (suc i) ≡ true
lt_suc w i h = grind (arith, nat_tests)

lt_self : (i : ℕ) → nat_lt i (suc i) ≡ true
lt_self i = grind (arith, nat_tests)

not_lt : (i nobody : ℕ) → i < nobody → nat_lt nobody (suc i) ≡ false
not_lt i nobody below = grind (arith, nat_tests)

-- a sign stays if the next worker did not make the visit
sign_kept : (i nobody : ℕ) (s : Signed) (m : Mark) (b : Bool) → m.mine ≡ b → i < nobody
    → IsSign i nobody s m → IsSign (suc i) nobody s m
sign_kept i nobody s m true e below is =
    record {
      visit = is.visit;
      mine = e ∙ sym (lt_suc s.worker i (sym is.mine ∙ e));
      other =
          is.other;
    }
sign_kept i nobody s m false e below is =
    record {
      visit = is.visit;
      mine =
          e ∙ sym (ap (λ w. nat_lt w (suc i)) (is.other e) ∙ not_lt i nobody below);
      other = is.other;
    }

-- the sign of a visit, after the next worker
sign_by : (i nobody : ℕ) (s : Signed) (x : Mark) (b : Bool) → i < nobody → IsSign (suc i) nobody s x
    → IsSign (suc i) nobody (sign (cond b i s.worker) s.entries) (mark (x.mine || b) x.visit)
sign_by i nobody s x true below is =
    record {
      visit = is.visit;
      mine = or-true x.mine ∙ sym (lt_self i);
      other =
          λ h. absurd (let e : true ≡ false = sym (or-true x.mine) ∙ h in cc);
    }
sign_by i nobody s x false below is =
    record {
      visit = is.visit;
      mine = or-false x.mine ∙ is.mine;
      other =
          λ h. is.other (sym (or-false x.mine) ∙ h);
    }

-- the marks of a worker that had seen nothing before
signed_first : (i nobody : ℕ) (marks : List Mark) → i < nobody
    → AreSigns (suc i) nobody (signed i nobody [] marks) marks
signed_first i nobody [] below = tt
signed_first i nobody (m ∷ marks) below = (
  sign_by i nobody (sign nobody m.visit) (mark false m.visit) m.mine below
      (record { visit = refl; mine = sym (not_lt i nobody below); other = λ h. refl }),
  signed_first i nobody marks below,
)

kept_all : (i nobody : ℕ) (signs : List Signed) (marks : List Mark) → i < nobody
    → AreSigns i nobody signs marks → AreSigns (suc i) nobody signs marks
kept_all i nobody [] [] below all = tt
kept_all i nobody [] (m ∷ marks) below all = absurd all
kept_all i nobody (s ∷ signs) [] below all = absurd all
kept_all i nobody (s ∷ signs) (m ∷ marks) below all =
    (sign_kept i nobody s m m.mine refl below all.0, kept_all i nobody signs marks below all.1)

-- the signs of the marks of both
pub signs_more : (i nobody : ℕ) (signs : List Signed) (old other : List Mark) → i < nobody
    → AreSigns i nobody signs old
    → AreSigns (suc i) nobody (signed i nobody signs other) (joined_marks old other)
signs_more i nobody [] [] other below all = signed_first i nobody other below
signs_more i nobody [] (x ∷ old) other below all = absurd all
signs_more i nobody (s ∷ signs) [] other below all = absurd all
signs_more i nobody (s ∷ signs) (x ∷ old) [] below all =
    kept_all i nobody (s ∷ signs) (x ∷ old) below all
signs_more i nobody (s ∷ signs) (x ∷ old) (y ∷ other) below all = (
  sign_by i nobody s x y.mine below (sign_kept i nobody s x x.mine refl below all.0),
  signs_more i nobody signs old other below all.1,
)

pub step_no : (w : ℕ) (s : Signed) (ss : List Signed) → (s.worker == w) ≡ false
    → by_worker w (s ∷ ss) ≡ by_worker w ss
step_no w s ss e = ap
    (λ b. map (λ v. v.entries)
    (cond b (s ∷ filter (λ v. v.worker == w) ss) (filter (λ v. v.worker == w) ss))) e

pub step_yes : (w : ℕ) (s : Signed) (ss : List Signed) → (s.worker == w) ≡ true
    → by_worker w (s ∷ ss) ≡ s.entries ∷ by_worker w ss
step_yes w s ss e = ap
    (λ b. map (λ v. v.entries)
    (cond b (s ∷ filter (λ v. v.worker == w) ss) (filter (λ v. v.worker == w) ss))) e

same_step : (w : ℕ) (s t : Signed) (ss ts : List Signed) → (s.worker == w) ≡ (t.worker == w)
    → s.entries ≡ t.entries → by_worker w ss ≡ by_worker w ts
    → by_worker w (s ∷ ss) ≡ by_worker w (t ∷ ts)
same_step w s t ss ts e f rest = by_test (s.worker == w) refl
  where
    by_test : (b : Bool) → (s.worker == w) ≡ b → by_worker w (s ∷ ss) ≡ by_worker w (t ∷ ts)
    by_test true h = step_yes w s ss h
        ∙ (ap (λ v. v ∷ by_worker w ss) f ∙ ap (λ vs. t.entries ∷ vs) rest)
        ∙ sym (step_yes w t ts (sym e ∙ h))
    by_test false h = step_no w s ss h ∙ rest ∙ sym (step_no w t ts (sym e ∙ h))

-- two marks at one place are not both own
one_own : (x y : Mark) → cond x.mine 1 0 + cond y.mine 1 0 ≤ 1 → y.mine ≡ true → x.mine ≡ false
one_own x y h e = by_test x.mine refl
  where
    by_test : (b : Bool) → x.mine ≡ b → x.mine ≡ false
    by_test true f = absurd
        (let k : cond true 1 0 + cond true 1 0 ≤ 1 =
        subst (λ b. cond b 1 0 + cond true 1 0 ≤ 1) f
        (subst (λ c. cond x.mine 1 0 + cond c 1 0 ≤ 1) e h) in omega arith)
    by_test false f = f

-- the earlier workers' visits stay theirs
pub earlier_stay : (i nobody w : ℕ) (signs : List Signed) (old other : List Mark) → i < nobody
    → w < i → AreSigns i nobody signs old → Apart old other
    → by_worker w (signed i nobody signs other) ≡ by_worker w signs
earlier_stay i nobody w [] [] other below earlier all apart = none other
  where
    none : (ms : List Mark) → by_worker w (signed i nobody [] ms) ≡ []
    none [] = refl
    none (m ∷ ms) = step_no w (sign (cond m.mine i nobody) m.visit) (signed i nobody [] ms)
        (by_mark m.mine) ∙ none ms
      where
        by_mark : (b : Bool) → (cond b i nobody == w) ≡ false
        by_mark true = ne_eqb i w (λ e. omega (arith, e))
        by_mark false = ne_eqb nobody w (λ e. omega (arith, e))
earlier_stay i nobody w [] (x ∷ old) other below earlier all apart = absurd all
earlier_stay i nobody w (s ∷ signs) [] other below earlier all apart = absurd all
earlier_stay i nobody w (s ∷ signs) (x ∷ old) [] below earlier all apart = refl
earlier_stay i nobody w (s ∷ signs) (x ∷ old) (y ∷ other) below earlier all apart =
    same_step w (sign (cond y.mine i s.worker) s.entries) s (signed i nobody signs other) signs
    (by_mark y.mine refl) refl
    (earlier_stay i nobody w signs old other below earlier all.1 (λ k. apart (suc k)))
  where
    by_mark : (b : Bool) → y.mine ≡ b → (cond y.mine i s.worker == w) ≡ (s.worker == w)
    by_mark true e =
        let free : s.worker ≡ nobody = all.0.other (one_own x y (apart 0) e) in
        ap (λ b. cond b i s.worker == w) e ∙ ne_eqb i w (λ h. omega (arith, h))
        ∙ sym (ne_eqb s.worker w (λ h. omega (arith, h, free)))
    by_mark false e = ap (λ b. cond b i s.worker == w) e

-- a worker above those that were joined has signed nothing
not_signed : (i nobody : ℕ) (signs : List Signed) (old : List Mark) → i < nobody
    → AreSigns i nobody signs old → by_worker i signs ≡ []
not_signed i nobody [] old below all = refl
not_signed i nobody (s ∷ signs) [] below all = absurd all
not_signed i nobody (s ∷ signs) (x ∷ old) below all =
    step_no i s signs (ne_eqb s.worker i (λ h. other x.mine refl h))
    ∙ not_signed i nobody signs old below all.1
  where
    other : (b : Bool) → x.mine ≡ b → s.worker ≡ i → ⊥
    other true e h = omega (arith, h, ltb-true s.worker i (sym all.0.mine ∙ e))
    other false e h = omega (arith, h, all.0.other e)

own_step : (m : Mark) (ms : List Mark) (b : Bool) → m.mine ≡ b
    → made_visits (m ∷ ms) ≡ cond b (m.visit ∷ made_visits ms) (made_visits ms)
own_step m ms true e =
    ap (λ b. map (λ n. n.visit) (cond b (m ∷ filter (λ n. n.mine) ms) (filter (λ n. n.mine) ms))) e
own_step m ms false e =
    ap (λ b. map (λ n. n.visit) (cond b (m ∷ filter (λ n. n.mine) ms) (filter (λ n. n.mine) ms))) e

own_first_step : (i nobody : ℕ) (m : Mark) (ms : List Mark) (b : Bool) → m.mine ≡ b → i < nobody
    → by_worker i (signed i nobody [] ms) ≡ made_visits ms
    → by_worker i (signed i nobody [] (m ∷ ms)) ≡ made_visits (m ∷ ms)
own_first_step i nobody m ms true e below rest =
    step_yes i (sign (cond m.mine i nobody) m.visit) (signed i nobody [] ms)
    (ap (λ b. cond b i nobody == i) e ∙ eq-eqb i i refl) ∙ ap (λ vs. m.visit ∷ vs) rest
    ∙ sym (own_step m ms true e)
own_first_step i nobody m ms false e below rest =
    step_no i (sign (cond m.mine i nobody) m.visit) (signed i nobody [] ms)
    (ap (λ b. cond b i nobody == i) e ∙ ne_eqb nobody i (λ h. omega (arith, h))) ∙ rest
    ∙ sym (own_step m ms false e)

own_first : (i nobody : ℕ) (ms : List Mark) → i < nobody
    → by_worker i (signed i nobody [] ms) ≡ made_visits ms
own_first i nobody [] below = refl
own_first i nobody (m ∷ ms) below =
    own_first_step i nobody m ms m.mine refl below (own_first i nobody ms below)

free_sign : (i nobody : ℕ) (s : Signed) (x : Mark) (b : Bool) → x.mine ≡ b → i < nobody
    → IsSign i nobody s x → s.worker ≢ i
free_sign i nobody s x true e below is =
    λ h. omega (arith, h, ltb-true s.worker i (sym is.mine ∙ e))
free_sign i nobody s x false e below is = λ h. omega (arith, h, is.other e)

new_own_step : (i nobody : ℕ) (s : Signed) (x y : Mark) (signs : List Signed) (other : List Mark)
    (b : Bool) → y.mine ≡ b → i < nobody → IsSign i nobody s x → x.visit ≡ y.visit
    → by_worker i (signed i nobody signs other) ≡ made_visits other
    → by_worker i (signed i nobody (s ∷ signs) (y ∷ other)) ≡ made_visits (y ∷ other)
new_own_step i nobody s x y signs other true e below is same rest =
    step_yes i (sign (cond y.mine i s.worker) s.entries) (signed i nobody signs other)
    (ap (λ b. cond b i s.worker == i) e ∙ eq-eqb i i refl)
    ∙ (ap (λ v. v ∷ by_worker i (signed i nobody signs other)) (is.visit ∙ same)
    ∙ ap (λ vs. y.visit ∷ vs) rest) ∙ sym (own_step y other true e)
new_own_step i nobody s x y signs other false e below is same rest =
    step_no i (sign (cond y.mine i s.worker) s.entries) (signed i nobody signs other)
    (ap (λ b. cond b i s.worker == i) e
    ∙ ne_eqb s.worker i (free_sign i nobody s x x.mine refl below is)) ∙ rest
    ∙ sym (own_step y other false e)

-- the next worker's visits are those that it made
pub new_own : (i nobody : ℕ) (signs : List Signed) (old other : List Mark) → i < nobody
    → AreSigns i nobody signs old
    → Begins (visits_of old) (visits_of other) ⊎ Begins (visits_of other) (visits_of old)
    → by_worker i (signed i nobody signs other) ≡ made_visits other
new_own i nobody [] [] other below all begins = own_first i nobody other below
new_own i nobody [] (x ∷ old) other below all begins = absurd all
new_own i nobody (s ∷ signs) [] other below all begins = absurd all
new_own i nobody (s ∷ signs) (x ∷ old) [] below all begins =
    not_signed i nobody (s ∷ signs) (x ∷ old) below all
new_own i nobody (s ∷ signs) (x ∷ old) (y ∷ other) below all begins =
    let parts = both_begin x.visit y.visit (visits_of old) (visits_of other) begins in
    new_own_step i nobody s x y signs other y.mine refl below all.0 parts.0
    (new_own i nobody signs old other below all.1 parts.1)

-- signs are of the visits
pub signs_visits : (i nobody : ℕ) (signs : List Signed) (marks : List Mark)
    → AreSigns i nobody signs marks → map (λ s. s.entries) signs ≡ visits_of marks
signs_visits i nobody [] [] all = refl
signs_visits i nobody [] (m ∷ marks) all = absurd all
signs_visits i nobody (s ∷ signs) [] all = absurd all
signs_visits i nobody (s ∷ signs) (m ∷ marks) all =
    ap (λ v. v ∷ map (λ s. s.entries) signs) all.0.visit
    ∙ ap (λ vs. m.visit ∷ vs) (signs_visits i nobody signs marks all.1)

-- how many visits a pass made
pub made_own : (n : ℕ) (ms : List Mark) → length (made_from n ms) ≡ length (made_visits ms)
made_own n [] = refl
made_own n (m ∷ ms) = by_mark m.mine refl (made_own (n + 1) ms)
  where
    by_mark : (b : Bool) → m.mine ≡ b → length (made_from (n + 1) ms) ≡ length (made_visits ms)
        → length (made_from n (m ∷ ms)) ≡ length (made_visits (m ∷ ms))
    by_mark true e rest =
        ap (λ b. length (cond b ((n, m.visit) ∷ made_from (n + 1) ms) (made_from (n + 1) ms))) e
        ∙ ap suc rest ∙ sym (ap length (own_step m ms true e))
    by_mark false e rest =
        ap (λ b. length (cond b ((n, m.visit) ∷ made_from (n + 1) ms) (made_from (n + 1) ms))) e
        ∙ rest ∙ sym (ap length (own_step m ms false e))

length-numbered : (n : ℕ) (vs : List (List Entry)) → length (numbered n vs) ≡ length vs
length-numbered n [] = refl
length-numbered n (v ∷ vs) = ap suc (length-numbered (n + 1) vs)

-- if a pass made all visits, each of them was made by a worker that was joined
pub all_signed : (i nobody n : ℕ) (signs : List Signed) (marks : List Mark)
    → AreSigns i nobody signs marks → made_from n marks ≡ numbered n (visits_of marks)
    → All (λ s. s.worker < i) signs
all_signed i nobody n [] [] all made = All-nil (λ s. s.worker < i)
all_signed i nobody n [] (m ∷ marks) all made = absurd all
all_signed i nobody n (s ∷ signs) [] all made = absurd all
all_signed i nobody n (s ∷ signs) (m ∷ marks) all made =
    All-cons (λ v. v.worker < i) s signs (here m.mine refl)
    (all_signed i nobody (n + 1) signs marks all.1 (rest m.mine refl))
  where
    too_few : m.mine ≡ false → ⊥
    too_few e =
        let short : length (made_from (n + 1) marks) ≤ length marks = made_few (n + 1) marks in
        let same : made_from (n + 1) marks ≡ numbered n (visits_of (m ∷ marks)) =
        sym (ap (λ b. cond b ((n, m.visit) ∷ made_from (n + 1) marks) (made_from (n + 1) marks)) e)
        ∙ made in
        omega (
          arith,
          short,
          ap length same,
          length-numbered n (visits_of (m ∷ marks)),
          length-map marks (λ (k : Mark). k.visit),
        )

    here : (b : Bool) → m.mine ≡ b → s.worker < i
    here true e = ltb-true s.worker i (sym all.0.mine ∙ e)
    here false e = absurd (too_few e)

    rest : (b : Bool) → m.mine ≡ b → made_from (n + 1) marks ≡ numbered (n + 1) (visits_of marks)
    rest true e =
        let same : (n, m.visit) ∷ made_from (n + 1) marks
        ≡ (n, m.visit) ∷ numbered (n + 1) (visits_of marks) =
        sym (ap (λ b. cond b ((n, m.visit) ∷ made_from (n + 1) marks) (made_from (n + 1) marks)) e)
        ∙ made in
        cc
    rest false e = absurd (too_few e)

-- marks that were joined with none
pub joined_none : (marks : List Mark) → AreJoined marks [] marks
joined_none marks = record {
  marks = sym (merged-nil marks);
  apart = λ i. omega (arith, made_at-few i marks);
  begins = inr (visits_of marks, refl);
  held = omega arith;
}
