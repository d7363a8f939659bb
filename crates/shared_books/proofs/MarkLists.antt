-- Marks: the visits that they show, and those of them that are own.
use Rattle.std.proofs.Common.{◌≡◌, ℕ, ◌+◌, ◌<◌, ◌≤◌, ◌≢◌, ◌⊎◌, zero, suc, Bool, true, false, cond}
use Rattle.std.proofs.Common.{◌||◌, List, [], ◌∷◌, ◌++◌, length, drop, get_or, refl, sym, ap, ◌∙◌}
use Rattle.std.proofs.Common.{arith, inl, inr, ⊎_elim, append_assoc, append-nil, length-append}
use Rattle.std.proofs.lemmas.List.{length-map}
use Rattle.histories.specs.declared.entry.Entry.{Entry}
use Rattle.shared_books.specs.declared.turns.rule.Mark.{Mark}
use Rattle.shared_books.specs.Marks.{mark, others, visits_of, history_of_visits, made_from}
use Rattle.shared_books.specs.Marks.{numbered, made_at, Apart, Begins, joined_marks}

pub visits-append : (xs ys : List Mark) → visits_of (xs ++ ys) ≡ visits_of xs ++ visits_of ys
visits-append [] ys = refl
visits-append (x ∷ xs) ys = λ k. x.visit ∷ visits-append xs ys k

pub visits-others : (vs : List (List Entry)) → visits_of (others vs) ≡ vs
visits-others [] = refl
visits-others (v ∷ vs) = λ k. v ∷ visits-others vs k

pub visits-caught : (ms : List Mark) (vs : List (List Entry))
    → visits_of (ms ++ others vs) ≡ visits_of ms ++ vs
visits-caught ms vs =
    visits-append ms (others vs) ∙ ap (λ us. visits_of ms ++ us) (visits-others vs)

pub length-visits : (ms : List Mark) → length (visits_of ms) ≡ length ms
length-visits ms = length-map ms (λ m. m.visit)

pub others-append : (vs ws : List (List Entry)) → others (vs ++ ws) ≡ others vs ++ others ws
others-append [] ws = refl
others-append (v ∷ vs) ws = λ k. mark false v ∷ others-append vs ws k

-- the histories of two lists of visits are joined
pub joined-append : (vs ws : List (List Entry))
    → history_of_visits (vs ++ ws) ≡ history_of_visits vs ++ history_of_visits ws
joined-append [] ws = refl
joined-append (v ∷ vs) ws =
    ap (λ es. v ++ es) (joined-append vs ws)
    ∙ sym (append_assoc v (history_of_visits vs) (history_of_visits ws))

pub joined-snoc : (vs : List (List Entry)) (v : List Entry)
    → history_of_visits (vs ++ v ∷ []) ≡ history_of_visits vs ++ v
joined-snoc vs v = joined-append vs (v ∷ []) ∙ ap (λ es. history_of_visits vs ++ es) (append-nil v)

pub drop_all : (xs ys : List Entry) → drop (length xs) (xs ++ ys) ≡ ys
drop_all [] ys = refl
drop_all (x ∷ xs) ys = drop_all xs ys

-- own marks, place by place
one_or_none : (b : Bool) → cond b 1 0 ≤ 1
one_or_none true = omega arith
one_or_none false = omega arith

-- at a place one visit is made, or none
pub made_at-few : (i : ℕ) (ms : List Mark) → made_at i ms ≤ 1
made_at-few i [] = omega arith
made_at-few zero (m ∷ ms) = one_or_none m.mine
made_at-few (suc i) (m ∷ ms) = made_at-few i ms

pub made_at-others : (i : ℕ) (vs : List (List Entry)) → made_at i (others vs) ≡ 0
made_at-others i [] = refl
made_at-others zero (v ∷ vs) = refl
made_at-others (suc i) (v ∷ vs) = made_at-others i vs

pub made_at-caught : (i : ℕ) (ms : List Mark) (vs : List (List Entry))
    → made_at i (ms ++ others vs) ≡ made_at i ms
made_at-caught i [] vs = made_at-others i vs
made_at-caught zero (m ∷ ms) vs = refl
made_at-caught (suc i) (m ∷ ms) vs = made_at-caught i ms vs

pub made_at-here : (ms : List Mark) (v : List Entry)
    → made_at (length ms) (ms ++ mark true v ∷ []) ≡ 1
made_at-here [] v = refl
made_at-here (m ∷ ms) v = made_at-here ms v

pub made_at-else : (i : ℕ) (ms : List Mark) (v : List Entry) → i ≢ length ms
    → made_at i (ms ++ mark true v ∷ []) ≡ made_at i ms
made_at-else zero [] v n = absurd (n refl)
made_at-else (suc i) [] v n = refl
made_at-else zero (m ∷ ms) v n = refl
made_at-else (suc i) (m ∷ ms) v n = made_at-else i ms v (λ e. n (ap suc e))

pub made_at-beyond : (i : ℕ) (ms : List Mark) → length ms ≤ i → made_at i ms ≡ 0
made_at-beyond i [] le = refl
made_at-beyond zero (m ∷ ms) le = absurd (omega arith)
made_at-beyond (suc i) (m ∷ ms) le = made_at-beyond i ms (omega arith)

-- own marks, with their numbers
pub made-others : (n : ℕ) (vs : List (List Entry)) → made_from n (others vs) ≡ []
made-others n [] = refl
made-others n (v ∷ vs) = made-others (n + 1) vs

pub made-caught : (n : ℕ) (ms : List Mark) (vs : List (List Entry))
    → made_from n (ms ++ others vs) ≡ made_from n ms
made-caught n [] vs = made-others n vs
made-caught n (m ∷ ms) vs =
    ap (λ made. cond m.mine ((n, m.visit) ∷ made) made) (made-caught (n + 1) ms vs)

snoc_step : (b : Bool) (x : ℕ × List Entry) (more all last : List (ℕ × List Entry))
    → all ≡ more ++ last → cond b (x ∷ all) all ≡ cond b (x ∷ more) more ++ last
snoc_step true x more all last e = λ k. x ∷ e k
snoc_step false x more all last e = e

pub made-snoc : (n : ℕ) (ms : List Mark) (v : List Entry)
    → made_from n (ms ++ mark true v ∷ []) ≡ made_from n ms ++ (n + length ms, v) ∷ []
made-snoc n [] v = let e : n ≡ n + 0 = omega arith in λ k. (e k, v) ∷ []
made-snoc n (m ∷ ms) v =
    let e : n + 1 + length ms ≡ n + length (m ∷ ms) = omega arith in
    snoc_step m.mine (n, m.visit) (made_from (n + 1) ms)
    (made_from (n + 1) (ms ++ mark true v ∷ [])) ((n + length (m ∷ ms), v) ∷ [])
    (made-snoc (n + 1) ms v ∙ (λ k. made_from (n + 1) ms ++ (e k, v) ∷ []))

few_step : (b : Bool) (x : ℕ × List Entry) (made : List (ℕ × List Entry)) (k : ℕ) → length made ≤ k
    → length (cond b (x ∷ made) made) ≤ suc k
few_step true x made k le = omega arith
few_step false x made k le = omega arith

-- no more visits are made than there are marks
pub made_few : (n : ℕ) (ms : List Mark) → length (made_from n ms) ≤ length ms
made_few n [] = omega arith
made_few n (m ∷ ms) =
    few_step m.mine (n, m.visit) (made_from (n + 1) ms) (length ms) (made_few (n + 1) ms)

many_step : (b : Bool) (x : ℕ × List Entry) (made : List (ℕ × List Entry)) (k : ℕ) → 1 ≤ cond b 1 0
    → k ≤ length made → suc k ≤ length (cond b (x ∷ made) made)
many_step true x made k own le = omega arith
many_step false x made k own le = absurd (omega arith)

-- if the first k marks are own
pub made_many : (n : ℕ) (ms : List Mark) (k : ℕ) → ((i : ℕ) → i < k → made_at i ms ≡ 1)
    → k ≤ length (made_from n ms)
made_many n ms zero own = omega arith
made_many n [] (suc k) own = let one = own 0 (omega arith) in absurd (omega arith)
made_many n (m ∷ ms) (suc k) own =
    many_step m.mine (n, m.visit) (made_from (n + 1) ms) k
    (let o = own 0 (omega arith) in omega arith)
    (made_many (n + 1) ms k (λ i lt. own (suc i) (omega arith)))

all_step : (b : Bool) (x : ℕ × List Entry) (made all : List (ℕ × List Entry)) (k : ℕ)
    → length made ≤ k → suc k ≤ length (cond b (x ∷ made) made) → (k ≤ length made → made ≡ all)
    → cond b (x ∷ made) made ≡ x ∷ all
all_step true x made all k few most e = let same = e (omega arith) in λ i. x ∷ same i
all_step false x made all k few most e = absurd (omega arith)

-- if all marks are own
pub made_all : (n : ℕ) (ms : List Mark) → length ms ≤ length (made_from n ms)
    → made_from n ms ≡ numbered n (visits_of ms)
made_all n [] le = refl
made_all n (m ∷ ms) le =
    all_step m.mine (n, m.visit) (made_from (n + 1) ms) (numbered (n + 1) (visits_of ms))
    (length ms) (made_few (n + 1) ms) le (made_all (n + 1) ms)

-- two passes' marks
merged_one : (a b : Bool) → cond a 1 0 + cond b 1 0 ≤ 1
    → cond (a || b) 1 0 ≡ cond a 1 0 + cond b 1 0
merged_one true true le = absurd (omega arith)
merged_one true false le = refl
merged_one false true le = refl
merged_one false false le = refl

pub made_at-merged : (i : ℕ) (xs ys : List Mark) → Apart xs ys
    → made_at i (joined_marks xs ys) ≡ made_at i xs + made_at i ys
made_at-merged i [] ys apart = omega arith
made_at-merged i (x ∷ xs) [] apart = omega arith
made_at-merged zero (x ∷ xs) (y ∷ ys) apart = merged_one x.mine y.mine (apart 0)
made_at-merged (suc i) (x ∷ xs) (y ∷ ys) apart = made_at-merged i xs ys (λ j. apart (suc j))

merged_step : (a b : Bool) (p q r : ℕ × List Entry) (all xs ys : List (ℕ × List Entry))
    → cond a 1 0 + cond b 1 0 ≤ 1 → length all ≡ length xs + length ys
    → length (cond (a || b) (p ∷ all) all)
    ≡ length (cond a (q ∷ xs) xs) + length (cond b (r ∷ ys) ys)
merged_step true true p q r all xs ys le e = absurd (omega arith)
merged_step true false p q r all xs ys le e = omega arith
merged_step false true p q r all xs ys le e = omega arith
merged_step false false p q r all xs ys le e = e

pub length-made-merged : (n : ℕ) (xs ys : List Mark) → Apart xs ys
    → length (made_from n (joined_marks xs ys)) ≡ length (made_from n xs) + length (made_from n ys)
length-made-merged n [] ys apart = omega arith
length-made-merged n (x ∷ xs) [] apart = omega arith
length-made-merged n (x ∷ xs) (y ∷ ys) apart =
    merged_step x.mine y.mine (n, x.visit) (n, x.visit) (n, y.visit)
    (made_from (n + 1) (joined_marks xs ys)) (made_from (n + 1) xs) (made_from (n + 1) ys) (apart 0)
    (length-made-merged (n + 1) xs ys (λ j. apart (suc j)))

-- beginnings of one list of visits
tail_of : {v w : List Entry} {vs ws : List (List Entry)} → v ∷ vs ≡ w ∷ ws → vs ≡ ws
tail_of e = ap (λ l. drop 1 l) e

head_of : {v w : List Entry} {vs ws : List (List Entry)} → v ∷ vs ≡ w ∷ ws → v ≡ w
head_of {v} e = ap (λ l. get_or l 0 v) e

pub begins_merged : (xs ys : List Mark) (all : List (List Entry)) → Begins (visits_of xs) all
    → Begins (visits_of ys) all → Begins (visits_of (joined_marks xs ys)) all
begins_merged [] ys all a b = b
begins_merged (x ∷ xs) [] all a b = a
begins_merged (x ∷ xs) (y ∷ ys) all a b =
    let rest = begins_merged xs ys (visits_of xs ++ a.0) (a.0, refl)
    (b.0, tail_of (sym a.1 ∙ b.1)) in
    (rest.0, a.1 ∙ ap (λ l. x.visit ∷ l) rest.1)

pub begins_either : (vs ws all : List (List Entry)) → Begins vs all → Begins ws all
    → Begins vs ws ⊎ Begins ws vs
begins_either [] ws all a b = inl (ws, refl)
begins_either (v ∷ vs) [] all a b = inr (v ∷ vs, refl)
begins_either (v ∷ vs) (w ∷ ws) all a b =
    let e = sym a.1 ∙ b.1 in
    let h : v ≡ w = head_of e in
    ⊎_elim (λ t. inl (t.0, (λ k. sym h k ∷ t.1 k))) (λ t. inr (t.0, (λ k. h k ∷ t.1 k)))
    (begins_either vs ws (vs ++ a.0) (a.0, refl) (b.0, tail_of e))

whole_step : (vs more all : List (List Entry)) → all ≡ vs ++ more → length all ≤ length vs
    → all ≡ vs
whole_step vs [] all e le = e ∙ append-nil vs
whole_step vs (v ∷ more) all e le = let l = ap (λ (us : List (List Entry)). length us) e in let a =
    length-append vs (v ∷ more) in absurd (omega arith)

pub begins_whole : (vs all : List (List Entry)) → Begins vs all → length all ≤ length vs → all ≡ vs
begins_whole vs all b le = whole_step vs b.0 all b.1 le

pub begins_shorter : (vs all : List (List Entry)) → Begins vs all → length vs ≤ length all
begins_shorter vs all b = let l = ap (λ (us : List (List Entry)). length us) b.1 in let a =
    length-append vs b.0 in omega arith
