-- Texts that are written part by part.
use Rattle.std.proofs.Common.{get_or, length-take, sym, ◌∙◌, ap, subst, append_assoc, append-nil}
use Rattle.std.proofs.Common.{arith, add-zero}
use Rattle.fare_texts.proofs.Beginnings.{goes_last, goes_on, goes_then_on}
use Rattle.fare_texts.proofs.Parts.{in_parts}
use Rattle.fare_texts.specs.{ReportLines.token_line, WrittenOut.Begins, WrittenOut.GoesOut}
use Rattle.histories.specs.Sums.{Sums}
use Rattle.report_texts.specs.Report.{upload_line, upload_lines}
use Rattle.std.proofs.lemmas.Grind.{flat_map-append}
use Rattle.std.proofs.lemmas.List.{take-append-drop, take_more, take_all, flat_map_more}
use Rattle.std.specs.{Io.KnownBytes.Appends, List.flat_map}
use Rattle.std.specs.Prelude.{ℕ, ◌≡◌, ◌+◌, ◌<◌, ◌≤◌, List, [], ◌∷◌, ◌++◌, drop, length, take}
use Rattle.std.specs.Prelude.{Option, Some, slice_get, codes}
use Rattle.tap_views.proofs.Lists.{take_next}
use Rattle.tap_views.specs.declared.token.Token.{Token}
use Rattle.tap_views.specs.declared.upload_end.UploadEnd.{UploadEnd, TheVariants.Posted}

-- a line of a word, a number and what follows, of which the rest was written after the two
pub in_line : (start middle done word number rest : List ℕ)
    → middle ≡ start ++ (word ++ (number ++ codes " ")) → done ≡ middle ++ rest
    → done ≡ start ++ (word ++ (number ++ (codes " " ++ rest)))
in_line start middle done word number rest a b =
    in_parts start middle done (word ++ (number ++ codes " ")) rest a b
    ∙ ap (λ text. start ++ text)
    (append_assoc word (number ++ codes " ") rest
    ∙ ap (λ text. word ++ text) (append_assoc number (codes " ") rest))

-- four words with their numbers, put one before the other from the last
pub four_counts : (start one two three done a m b n c o d p : List ℕ) → one ≡ d ++ (p ++ start)
    → two ≡ c ++ (o ++ one) → three ≡ b ++ (n ++ two) → done ≡ a ++ (m ++ three)
    → done ≡ (a ++ (m ++ (b ++ (n ++ (c ++ (o ++ (d ++ p))))))) ++ start
four_counts start one two three done a m b n c o d p first second third fourth =
    simp append_assoc (rw (third, second, first) at fourth)

-- the lines before a token's, and its line
pub next_token : (a b c : Option (List ℕ)) (start waits left line : List ℕ)
    (sums : List (Token × Sums)) (i : ℕ) (sum : Token × Sums) → slice_get sums i ≡ Some sum
    → GoesOut a start b waits (flat_map token_line (take i sums)) → line ≡ token_line sum
    → GoesOut b waits c left line → GoesOut a start c left (flat_map token_line (take (i + 1) sums))
next_token a b c start waits left line sums i sum at before shown more =
    subst (λ (text : List ℕ). GoesOut a start c left text)
    (ap (λ (last : List ℕ). flat_map token_line (take i sums) ++ last) shown
    ∙ (flat_map_more token_line [] (take i sums) sum
    ∙ ap (λ taken. flat_map token_line taken) (take_next sums i sum at)))
    (goes_on a b c start waits left (flat_map token_line (take i sums)) line before more)

-- so all lines are out at last
pub last_out : (a b c : Option (List ℕ)) (start waits : List ℕ) (sums : List (Token × Sums))
    (i : ℕ) → length sums ≤ i → GoesOut a start b waits (flat_map token_line (take i sums))
    → Appends b c waits → Appends a c (start ++ flat_map token_line sums)
last_out a b c start waits sums i all gone written =
    subst (λ (taken : List (Token × Sums)). Appends a c (start ++ flat_map token_line taken))
    (take_all i sums all)
    (goes_last a b c start waits (flat_map token_line (take i sums)) gone written)

-- if a write fails, a beginning of all lines is out
pub lines_started : (a b c : Option (List ℕ)) (start waits : List ℕ) (sums : List (Token × Sums))
    (i : ℕ) → GoesOut a start b waits (flat_map token_line (take i sums)) → Begins b c waits
    → Begins a c (start ++ flat_map token_line sums)
lines_started a b c start waits sums i gone started =
    let whole : flat_map token_line (take i sums) ++ flat_map token_line (drop i sums)
    ≡ flat_map token_line sums =
    sym (flat_map-append token_line (take i sums) (drop i sums))
    ∙ ap (λ (all : List (Token × Sums)). flat_map token_line all) (take-append-drop i sums) in
    subst (λ (text : List ℕ). Begins a c (start ++ text)) whole
    (goes_then_on a b c start waits (flat_map token_line (take i sums))
    (flat_map token_line (drop i sums)) gone started)

-- one upload more
pub upload_lines-push : (upload : ℕ) (ends : List UploadEnd) (end : UploadEnd)
    → upload_lines upload (ends ++ end ∷ [])
    ≡ upload_lines upload ends ++ upload_line (upload + length ends) end
upload_lines-push upload [] end =
    append-nil (upload_line upload end) ∙ ap (λ n. upload_line n end) (sym (add-zero upload))
upload_lines-push upload (first ∷ ends) end =
    let next : (upload + 1) + length ends ≡ upload + length (first ∷ ends) = omega arith in
    ap (λ text. upload_line upload first ++ text)
    (upload_lines-push (upload + 1) ends end
    ∙ ap (λ n. upload_lines (upload + 1) ends ++ upload_line n end) next)
    ∙ sym (append_assoc (upload_line upload first) (upload_lines (upload + 1) ends)
    (upload_line (upload + length (first ∷ ends)) end))

-- what was written of the uploads before one, and the line of that one
pub lines_more : (start : List ℕ) (ends : List UploadEnd) (i : ℕ) → i < length ends
    → (start ++ upload_lines 0 (take i ends)) ++ upload_line i (get_or ends i (Posted 0))
    ≡ start ++ upload_lines 0 (take (i + 1) ends)
lines_more start ends i within =
    let count : 0 + length (take i ends) ≡ i = omega (arith, length-take {A = UploadEnd}) in
    append_assoc start (upload_lines 0 (take i ends)) (upload_line i (get_or ends i (Posted 0)))
    ∙ ap (λ text. start ++ text)
    (ap (λ n. upload_lines 0 (take i ends) ++ upload_line n (get_or ends i (Posted 0))) (sym count)
    ∙ sym (upload_lines-push 0 (take i ends) (get_or ends i (Posted 0)))
    ∙ ap (λ taken. upload_lines 0 taken) (sym (take_more ends i (Posted 0) within)))

-- the parts of a report, of which the last has a head and lines
pub before_lines : (start after_first after_second after_third done first second third head
    lines : List ℕ) → start ≡ [] → after_first ≡ start ++ first
    → after_second ≡ after_first ++ second → after_third ≡ after_second ++ third
    → done ≡ after_third ++ head → done ++ lines ≡ first ++ (second ++ (third ++ (head ++ lines)))
before_lines start after_first after_second after_third done first second third head lines none a b
    c d =
    ap (λ text. text ++ lines)
    (d ∙ ap (λ text. text ++ head)
    (c ∙ ap (λ text. text ++ third)
    (b ∙ ap (λ text. text ++ second) (a ∙ ap (λ text. text ++ first) none))))
    ∙ append_assoc ((first ++ second) ++ third) head lines
    ∙ append_assoc (first ++ second) third (head ++ lines)
    ∙ append_assoc first second (third ++ (head ++ lines))
