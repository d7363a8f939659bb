use Rattle.std.proofs.Common.{◌≡◌, ◌∙◌, ◌+◌, ℕ, List, [], ◌∷◌, ◌++◌, All, Ok, ap, arith, length}
use Rattle.std.proofs.Common.{map, length-append, sym, string_bytes}
use Rattle.fare_table.specs.{Caps.cap_in, Caps.caps_from, Classes.count_of}
use Rattle.std.proofs.lemmas.Grind.{common_steps}
use Rattle.tariffs.specs.{WindowSpan.IsBoundedLength, declared.cap_terms.CapTerms.CapTerms}
use Rattle.toml.specs.{Data.Data, Data.Members, Data.member, View.members_view, View.view}
use Rattle.fare_table.proofs.read.caps.caps_from.Goals as goal

caps-step : (modes : List (List ℕ)) (earlier found : List CapTerms) (key : List ℕ) (value : Data)
    (more : Members) (one : CapTerms) → cap_in modes value ≡ Ok one → found ≡ earlier ++ one ∷ []
    → caps_from modes earlier (member key value more) ≡ caps_from modes found more
caps-step modes earlier found key value more one is same = rw (is, same)

all_with : (earlier found : List CapTerms) (one : CapTerms)
    → All (λ cap. IsBoundedLength cap.length) earlier → IsBoundedLength one.length
    → found ≡ earlier ++ one ∷ [] → All (λ cap. IsBoundedLength cap.length) found
all_with earlier found one all bounded same = grind (arith, common_steps)

count-step : (whole : ℕ) (earlier found : List CapTerms) (one : CapTerms) (key : List ℕ)
    (value : Data) (more : Members) → whole ≡ length earlier + count_of (member key value more)
    → found ≡ earlier ++ one ∷ [] → whole ≡ length found + count_of more
count-step whole earlier found one key value more is same =
    let longer : length found ≡ length earlier + 1 =
    ap length same ∙ length-append earlier (one ∷ []) in
    omega (arith, is, longer)

pub loop-name-preserved : goal.loop-name-preserved
loop-name-preserved c =
    let modes = map string_bytes c.args.modes.now in
    let tables = members_view c.args.tables.now.entries in
    let earlier = c.loop-name.found.items in
    let found = c.push.new.self.items in
    let key = string_bytes c.in-Some._name.now in
    let value = view c.in-Some.value.now in
    let more = members_view c.next.new.self in
    let one = c.in_ok-cap.cap in
    let same : found ≡ earlier ++ one ∷ [] = c.in_ok-push.ensures.items in
    record {
      same =
          c.loop-name.invariant.same
          ∙ ap (λ more. caps_from modes earlier (members_view more)) c.in-Some.ensures.steps
          ∙ caps-step modes earlier found key value more one (sym c.in_ok-cap.ensures.cap) same;
      bounds = all_with earlier found one c.loop-name.invariant.bounds c.in_ok-cap.ensures.bounds
          same;
      count = count-step (count_of tables) earlier found one key value more
          (c.loop-name.invariant.count
          ∙ ap (λ more. length earlier + count_of (members_view more)) c.in-Some.ensures.steps)
          same;
    }
