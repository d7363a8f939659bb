use Rattle.std.proofs.Common.{◌≡◌, ℕ, zero, suc, ◌+◌, ◌<◌, List, [], ◌∷◌, ◌++◌, take, get_or}
use Rattle.std.proofs.Common.{length, ap, arith, refl, sym, ◌∙◌, add-one, Some, None, rules}
use Rattle.settled_bills.proofs.JoinedParts.{begins_of, ends_of}
use Rattle.settled_bills.specs.{Parts.added, inside.Charged.joined_spans}
use Rattle.sorted_taps.specs.{Positions.first_position, declared.positions.FileSpan.FileSpan}
use Rattle.settled_bills.proofs.part.join_files.Goals as goal

-- one span more of each
one_more : (xs ys : List FileSpan) (i : ℕ) (d e : FileSpan) → i < length xs → i < length ys
    → (get_or xs i d).to ≡ Some (get_or ys i e).from → ends_of (take i xs) ≡ begins_of (take i ys)
    → (ends_of (take (suc i) xs) ≡ begins_of (take (suc i) ys))
    × (joined_spans (take (suc i) xs) (take (suc i) ys)
    ≡ joined_spans (take i xs) (take i ys)
    ++ record { from = (get_or xs i d).from; to = (get_or ys i e).to } ∷ [])
one_more [] ys i d e inside within meet before = absurd (omega (arith, inside))
one_more (x ∷ xs) [] i d e inside within meet before = absurd (omega (arith, within))
one_more (x ∷ xs) (y ∷ ys) zero d e inside within meet before =
    (ap (λ end. end ∷ []) meet, refl)
one_more (x ∷ xs) (y ∷ ys) (suc i) d e inside within meet before =
    let here : x.to ≡ Some y.from = cc in
    let rest : ends_of (take i xs) ≡ begins_of (take i ys) = cc in
    let (ends, joined) = one_more xs ys i d e (omega (arith, inside)) (omega (arith, within)) meet
    rest in
    ((λ j. here j ∷ ends j), ap (λ spans. record { from = x.from; to = y.to } ∷ spans) joined)

-- one number more of each
added_more : (xs ys : List ℕ) (i d e : ℕ) → i < length xs → i < length ys
    → added (take (suc i) xs) (take (suc i) ys)
    ≡ added (take i xs) (take i ys) ++ (get_or xs i d + get_or ys i e) ∷ []
added_more [] ys i d e inside within = absurd (omega (arith, inside))
added_more (x ∷ xs) [] i d e inside within = absurd (omega (arith, within))
added_more (x ∷ xs) (y ∷ ys) zero d e inside within = refl
added_more (x ∷ xs) (y ∷ ys) (suc i) d e inside within =
    ap (λ sums. (x + y) ∷ sums)
    (added_more xs ys i d e (omega (arith, inside)) (omega (arith, within)))

pub loop-at-preserved : goal.loop-at-preserved
loop-at-preserved c =
    let inv = c.loop-at.invariant in
    let at = c.loop-at.at in
    let spans = c.args.spans.now in
    let others = c.args.others.now in
    let numbers = c.args.numbers.now in
    let counts = c.args.counts.now in
    let none : FileSpan = record { from = first_position; to = None } in
    let inside : at < length spans = omega arith in
    let within : at < length others = omega arith in
    let here : (get_or spans at none).to ≡ Some (get_or others at none).from = search rules in
    let next : FileSpan = record {
      from = (get_or spans at none).from;
      to = (get_or others at none).to;
    } in
    let pushed : c.push.new.self.items ≡ c.loop-at.joined.items ++ next ∷ [] = search rules in
    let (meet, joined) = one_more spans others at none none inside within here inv.meet in
    let sum : c.in-Some.sum ≡ get_or numbers at 0 + get_or counts at 0 = grind arith in
    rw (add-one at) (record {
      meet = meet;
      joined = pushed ∙ ap (λ all. all ++ next ∷ []) inv.joined ∙ sym joined;
      sums = c.in_ok-push-2.ensures.items ∙ (λ i. inv.sums i ++ sum i ∷ [])
          ∙ sym (added_more numbers counts at 0 0 (omega arith) (omega arith));
    })
