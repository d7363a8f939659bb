use Rattle.std.proofs.Common.{◌≡◌, ◌∙◌, ◌+◌, ℕ, List, [], ◌∷◌, ◌++◌, All, Ok, ap, arith, length}
use Rattle.std.proofs.Common.{map, length-append, sym, string_bytes}
use Rattle.fare_table.specs.Classes.{class_in, classes_from, count_of}
use Rattle.std.proofs.lemmas.Grind.{common_steps}
use Rattle.tariffs.specs.{Terms.IsBoundedClass, declared.class.Class.Class}
use Rattle.toml.specs.{Data.Data, Data.Members, Data.member, View.members_view, View.view}
use Rattle.fare_table.proofs.read.classes.classes_from.Goals as goal

classes-step : (modes caps : List (List ℕ)) (earlier found : List Class) (key : List ℕ)
    (value : Data) (more : Members) (one : Class) → class_in modes caps value ≡ Ok one
    → found ≡ earlier ++ one ∷ []
    → classes_from modes caps earlier (member key value more) ≡ classes_from modes caps found more
classes-step modes caps earlier found key value more one is same = rw (is, same)

all_with : (earlier found : List Class) (one : Class) → All IsBoundedClass earlier
    → IsBoundedClass one → found ≡ earlier ++ one ∷ [] → All IsBoundedClass found
all_with earlier found one all bounded same = grind (arith, common_steps)

count-step : (whole : ℕ) (earlier found : List Class) (one : Class) (key : List ℕ) (value : Data)
    (more : Members) → whole ≡ length earlier + count_of (member key value more)
    → found ≡ earlier ++ one ∷ [] → whole ≡ length found + count_of more
count-step whole earlier found one key value more is same =
    let longer : length found ≡ length earlier + 1 =
    ap length same ∙ length-append earlier (one ∷ []) in
    omega (arith, is, longer)

pub loop-name-preserved : goal.loop-name-preserved
loop-name-preserved c =
    let modes = map string_bytes c.args.modes.now in
    let caps = map string_bytes c.args.caps.now in
    let classes = members_view c.args.classes.now.entries in
    let earlier = c.loop-name.found.items in
    let found = c.push.new.self.items in
    let key = string_bytes c.in-Some._name.now in
    let value = view c.in-Some.value.now in
    let more = members_view c.next.new.self in
    let one = c.in_ok-class.class in
    let same : found ≡ earlier ++ one ∷ [] = c.in_ok-push.ensures.items in
    record {
      same =
          c.loop-name.invariant.same
          ∙ ap (λ more. classes_from modes caps earlier (members_view more)) c.in-Some.ensures.steps
          ∙ classes-step modes caps earlier found key value more one
          (sym c.in_ok-class.ensures.class)
          same;
      bounds = all_with earlier found one c.loop-name.invariant.bounds c.in_ok-class.ensures.bounds
          same;
      count = count-step (count_of classes) earlier found one key value more
          (c.loop-name.invariant.count
          ∙ ap (λ more. length earlier + count_of (members_view more)) c.in-Some.ensures.steps)
          same;
    }
