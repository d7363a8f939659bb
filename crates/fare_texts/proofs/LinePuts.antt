-- Lines of ledgers that are made from their ends to their beginnings.
use Rattle.std.proofs.Common.{append_assoc, append-nil, ap, ◌∙◌, arith, refl}
use Rattle.account_rule.specs.declared.reply.Answer.{Answer, TheVariants.Paid}
use Rattle.account_rule.specs.declared.reply.Answer.TheVariants.{Transfer, Capped, Stale, Unknown}
use Rattle.fare_texts.specs.StatementText.{answer_text}
use Rattle.std.specs.Prelude.{ℕ, ◌≡◌, ◌≤◌, List, [], ◌++◌, codes, length}

-- what stands before the mode
pub start_shown : (old one two three four five six seven eight : List ℕ)
    (comma validator moment number token : List ℕ)
    → one ≡ comma ++ old → two ≡ validator ++ one → three ≡ comma ++ two
    → four ≡ moment ++ three → five ≡ comma ++ four → six ≡ number ++ five
    → seven ≡ comma ++ six → eight ≡ token ++ seven
    → eight ≡ ((token ++ (comma ++ (number ++ comma)))
    ++ (moment ++ (comma ++ (validator ++ comma)))) ++ old
start_shown old one two three four five six seven eight comma validator moment number token
    a b c d e f g h =
    simp append_assoc (rw (g, f, e, d, c, b, a) at h)

-- what stands behind it
pub end_shown : (none one two three four five six seven : List ℕ)
    (feed fields comma cents answer : List ℕ)
    → none ≡ [] → one ≡ feed ++ none → two ≡ fields ++ one → three ≡ comma ++ two
    → four ≡ cents ++ three → five ≡ comma ++ four → six ≡ answer ++ five → seven ≡ comma ++ six
    → seven ≡ comma ++ (answer ++ (comma ++ (cents ++ (comma ++ (fields ++ feed)))))
end_shown none one two three four five six seven feed fields comma cents answer
    empty a b c d e f g =
    let last : one ≡ feed = a ∙ ap (λ (back : List ℕ). feed ++ back) empty ∙ append-nil feed in
    rw (f, e, d, c, b, last) at g

-- a window, and what follows it
pub window_shown : (old one two three four rest to from : List ℕ)
    → one ≡ rest ++ old → two ≡ to ++ one → three ≡ codes "," ++ two → four ≡ from ++ three
    → four ≡ (from ++ (codes "," ++ (to ++ rest))) ++ old
window_shown old one two three four rest to from a b c d =
    simp append_assoc (rw (c, b, a) at d)

-- the whole line: what stands before the mode, the mode, and the end
pub line_shown : (old new mode end : List ℕ)
    (head moment comma validator answer cents fields feed : List ℕ) {named : List ℕ}
    → mode ≡ named → end ≡ comma ++ (answer ++ (comma ++ (cents ++ (comma ++ (fields ++ feed)))))
    → new ≡ old ++ ((head ++ (moment ++ (comma ++ (validator ++ comma)))) ++ (mode ++ end))
    → new ≡ old ++ (head ++ (moment ++ ((comma ++ (validator ++ (comma ++ (named
    ++ (comma ++ (answer ++ (comma ++ (cents ++ comma)))))))) ++ (fields ++ feed))))
line_shown old new mode end head moment comma validator answer cents fields feed {named} is a b =
    let joined : old ++ ((head ++ (moment ++ (comma ++ (validator ++ comma)))) ++ (named
    ++ (comma ++ (answer ++ (comma ++ (cents ++ (comma ++ (fields ++ feed))))))))
    ≡ old ++ (head ++ (moment ++ ((comma ++ (validator ++ (comma ++ (named
    ++ (comma ++ (answer ++ (comma ++ (cents ++ comma)))))))) ++ (fields ++ feed)))) =
    simp append_assoc refl in
    (rw (is, a) at b) ∙ joined

-- the three parts, appended one after the other
pub parts_shown : (old one two three start mode end : List ℕ) → one ≡ old ++ start
    → two ≡ one ++ mode → three ≡ two ++ end → three ≡ old ++ (start ++ (mode ++ end))
parts_shown old one two three start mode end a b c =
    let joined : ((old ++ start) ++ mode) ++ end ≡ old ++ (start ++ (mode ++ end)) =
    simp append_assoc refl in
    (rw (b, a) at c) ∙ joined

-- the longest word is that of a transfer
pub answer_short : (answer : Answer) → length (answer_text answer) ≤ 8
answer_short Paid = omega arith
answer_short Transfer = omega arith
answer_short Capped = omega arith
answer_short Stale = omega arith
answer_short Unknown = omega arith
