-- An agency's CSV is read in one way at most.
use Rattle.std.proofs.Common.{◌≡◌, ℕ, List, [], ◌∷◌, Some, refl, sym, ap, subst, ◌∙◌}
use Rattle.csv.specs.{Machine.Read, Machine.next_record, Reading.AreRecords, Reading.Reached}
use Rattle.csv.specs.declared.parser.{Config.Config, State.State}
use Rattle.std.specs.{List.AllZip, Prelude.Option}
use Rattle.tap_rows.specs.{Agencies.IsRead, AgencyRows.IsParseOf}
use Rattle.tap_rows.specs.declared.agency.{choice.Choice.Choice, reading.Reading.Reading}

-- ---- the records
pub one_read : (p q : Read) (o : Option Read) → o ≡ Some p → o ≡ Some q → p ≡ q
one_read p q o is also = cc

pub one_list_of_records : (cfg : Config) (s : State) (xs : List ℕ)
    (rows others : List (List (List ℕ))) → AreRecords cfg s xs rows → AreRecords cfg s xs others
    → rows ≡ others
unfolding Reached
one_list_of_records cfg s xs [] [] is also = refl
one_list_of_records cfg s xs [] (r ∷ others) (s2, ys, (same, left), none)
    (s3, zs, (p, found, is, rest), end) =
    absurd (cc (same, left, none, found))
one_list_of_records cfg s xs (r ∷ rows) [] (s3, zs, (p, found, is, rest), end)
    (s2, ys, (same, left), none) =
    absurd (cc (same, left, none, found))
one_list_of_records cfg s xs (r ∷ rows) (o ∷ others) (s2, ys, (p, found, is, rest), none)
    (s3, zs, (q, again, also, more), end) =
    let same = one_read p q (next_record cfg s [] [] xs) found again in
    let first : r ≡ o = is ∙ ap (λ (x : Read). x.0) same ∙ sym also in
    let more_same = subst (λ (x : Read). Reached cfg x.1 x.2 others s3 zs) (sym same) more in
    let all = one_list_of_records cfg p.1 p.2 rows others (s2, ys, rest, none)
    (s3, zs, more_same, end) in
    ap (λ x. x ∷ rows) first ∙ ap (λ xs. o ∷ xs) all

-- ---- the rows
parses_same : (choice : Choice) (head : List (List ℕ)) (rows : List (List (List ℕ)))
    (readings others : List Reading) → AllZip (IsParseOf choice head) rows readings
    → AllZip (IsParseOf choice head) rows others → readings ≡ others
parses_same choice head [] [] [] is also = refl
parses_same choice head [] [] (o ∷ others) is also = absurd also
parses_same choice head [] (r ∷ readings) others is also = absurd is
parses_same choice head (row ∷ rows) [] others is also = absurd is
parses_same choice head (row ∷ rows) (r ∷ readings) [] is also = absurd also
parses_same choice head (row ∷ rows) (r ∷ readings) (o ∷ others) is also =
    ap (λ x. x ∷ readings) (is.0 ∙ sym also.0)
    ∙ ap (λ xs. o ∷ xs) (parses_same choice head rows readings others is.1 also.1)

pub head_same : (head other : List (List ℕ)) (rows others : List (List (List ℕ)))
    → head ∷ rows ≡ other ∷ others → (head ≡ other) × (rows ≡ others)
head_same head other rows others same = (cc, cc)

pub one_way : (choice : Choice) (text : List ℕ) (head other : List (List ℕ))
    (rows others : List (List (List ℕ))) (readings again : List Reading)
    → IsRead choice text head rows readings
    → IsRead choice text other others again → (head ≡ other) × (rows ≡ others) × (readings ≡ again)
one_way choice text head other rows others readings again is also =
    let (heads, all) = head_same head other rows others
    (one_list_of_records _ _ _ (head ∷ rows) (other ∷ others) is.records also.records) in
    let each = subst (λ h. AllZip (IsParseOf choice h) others again) (sym heads) also.each in
    let each_row = subst (λ rs. AllZip (IsParseOf choice head) rs again) (sym all) each in
    (heads, all, parses_same choice head rows readings again is.each each_row)
