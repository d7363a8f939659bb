-- Reports of parts, as they are printed, are merged into the report of the whole.
use Rattle.std.proofs.Common.{◌≡◌, ◌∙◌, ◌+◌, ℕ, Bool, true, false, List, [], ◌∷◌, ◌++◌, length, map}
use Rattle.std.proofs.Common.{None, Ok, refl, sym, ap, arith, append_assoc, append-nil}
use Rattle.std.proofs.Common.{length-append, codes}
use Rattle.fare_texts.specs.Counts.{totals_line}
use Rattle.fare_texts.specs.ReportLines.{number_line, token_line, validator_line}
use Rattle.histories.specs.Sums.{Sums}
use Rattle.line_folds.specs.Folds.{lines_of}
use Rattle.part_texts.proofs.{Leads.by_both, Runs.stopped}
use Rattle.part_texts.proofs.ShownFronts.{FrontLeads, head_taken, last_key, posted_taken}
use Rattle.part_texts.proofs.ShownFronts.{spans_taken, tokens_head_taken, totals_taken}
use Rattle.part_texts.proofs.ShownFronts.{uploads_taken, validators_head_taken, validators_taken}
use Rattle.part_texts.proofs.ShownParts.{IsFrontRead, are_opened, fronts_shown, left_shown}
use Rattle.part_texts.proofs.ShownSections.{tokens_at, tokens_end, tokens_taken}
use Rattle.part_texts.specs.{FrontSteps.at_part, Fronts.FrontsView, Fronts.no_fronts}
use Rattle.part_texts.specs.{Fronts.no_sums, Heads.span_lines, Merged.PartView}
use Rattle.part_texts.specs.Merged.{ended, is_none_left, left_of, merge_of, read_all, read_of}
use Rattle.part_texts.specs.Shown.{PartReport, part_text}
use Rattle.part_texts.specs.declared.fronts.Stage.{Stage, TheVariants.Head, TheVariants.Tokens}
use Rattle.part_texts.specs.inside.Shown.{IsNextPart, SoFar, are_next, last_of, nothing_so_far}
use Rattle.part_texts.specs.inside.Shown.{tokens_of, whole_text}
use Rattle.report_texts.specs.Report.{upload_lines, uploads_section, validators_section}
use Rattle.std.proofs.Math.Bool.{or-true}
use Rattle.std.proofs.lemmas.List.{length-map, Concat.flat_map-append}
use Rattle.std.specs.Prelude.{flat_map}
use Rattle.tap_views.specs.declared.upload_end.UploadEnd.TheVariants.{Posted}

-- where the fold stands behind the parts so far, at this stage
abbrev pub trailing : Bool → Bool → Stage → Sums → Sums → SoFar → FrontsView
trailing first last stage part so_far s = record {
  stage = stage;
  is_first = first;
  is_last = last;
  is_ledger = false;
  ends = s.ends;
  taps = s.taps;
  part = part;
  so_far = so_far;
  totals = s.totals;
  validators = s.validators;
  tokens = s.tokens;
  last = None;
}

-- ---- one front
-- what stands before the lines of tokens
abbrev front_lines : PartReport → List ℕ
front_lines p =
    (number_line (codes "part files ") (length p.spans) ++ span_lines 0 p.spans)
    ++ ((number_line (codes "uploads ") (length p.spans) ++ upload_lines 0 (map Posted p.taps))
    ++ (totals_line p.totals ++ ((number_line (codes "validators ") (length p.validators)
    ++ flat_map validator_line p.validators) ++ number_line (codes "tokens ") (length p.tokens))))

text_parts : (p : PartReport) → length p.taps ≡ length p.spans
    → part_text p ≡ front_lines p ++ flat_map token_line p.tokens
text_parts p same =
    rw (length-map p.taps Posted, same)
    (joined (number_line (codes "part files ") (length p.spans) ++ span_lines 0 p.spans)
    (number_line (codes "uploads ") (length p.spans) ++ upload_lines 0 (map Posted p.taps))
    (totals_line p.totals) (number_line (codes "validators ") (length p.validators)
    ++ flat_map validator_line p.validators) (number_line (codes "tokens ") (length p.tokens))
    (flat_map token_line p.tokens))
  where
    joined : (a b c d e t : List ℕ) → a ++ (b ++ (c ++ (d ++ (e ++ t)))) ≡ (a ++ (b ++ (c ++ (d ++ e)))) ++ t
    joined a b c d e t = simp append_assoc

front_leads : (first last : Bool) (before after : SoFar) (p : PartReport)
    → IsNextPart first last before p after
    → FrontLeads (trailing first last Head no_sums no_sums before) (front_lines p)
    (trailing first last (Tokens (length p.tokens)) p.totals p.totals after)
front_leads first last before after p is =
    let r = is.right in
    let n = length p.spans in
    let s = trailing first last Head no_sums no_sums before in
    let s1 : FrontsView = record s { ends = after.ends } in
    let s2 : FrontsView = record s1 { taps = after.taps } in
    let s3 : FrontsView = record s2 { part = p.totals; so_far = no_sums; totals = after.totals } in
    let s4 : FrontsView = record s3 { so_far = p.totals; validators = after.validators } in
    rw is.tokens (by_both (by_both (head_taken s n r.files is.files)
    (spans_taken s n 0 after.ends p.spans (omega arith) r.files r.spans is.joined))
    (by_both (by_both (uploads_taken s1 n r.files (or-true first))
    (rw r.uploads at (posted_taken s1 n 0 0 p.totals.taps after.taps p.taps
    (let u = r.uploads in omega (arith, u)) r.files is.posted)))
    (by_both (totals_taken s2 n p.totals after.totals r.totals is.totals)
    (by_both (by_both (validators_head_taken s3 (length p.validators) r.validators_number)
    (validators_taken s3 p.totals after.validators None p.validators r.validators
    r.validators_increase r.validators_add is.validators))
    (tokens_head_taken s4 (length p.tokens) (last_key None p.validators) r.tokens_number is.number)))))

-- the part whose front is read
abbrev opened_at : ℕ → PartReport → PartView
opened_at number p = record {
  stage = Tokens (length p.tokens);
  part = p.totals;
  number = number;
  lines = lines_of (flat_map token_line p.tokens);
}

-- the fold stands behind the parts so far
abbrev IsAfter : SoFar → FrontsView → Type 0
IsAfter before s =
    (first last : Bool) × (stage : Stage) × (part so_far : Sums)
    × (s ≡ trailing first last stage part so_far before)

abbrev token_lines : PartReport → List ℕ
token_lines p = flat_map token_line p.tokens

front_shown : (position : ℕ) (first last : Bool) (s : FrontsView) (p : PartReport)
    (before after : SoFar) → IsNextPart first last before p after → IsAfter before s
    → IsFrontRead part_text token_lines opened_at IsNextPart IsAfter position first last s p after
front_shown position first last s p before after is (f, l, stage, part, so_far, same) =
    let t = trailing first last (Tokens (length p.tokens)) p.totals p.totals after in
    let (number, lead) = (front_leads first last before after p is).on 1 (token_lines p) in
    record {
      next = t;
      number = number;
      now = (first, last, Tokens (length p.tokens), p.totals, p.totals, refl);
      read = ap (λ (x : FrontsView). read_of false position 1 (record x {
        stage = Head;
        is_first = first;
        is_last = last;
        part = no_sums;
        so_far = no_sums;
      }) (lines_of (part_text p))) same
          ∙ ap (λ text. read_of false position 1 (trailing first last Head no_sums no_sums before)
          (lines_of text)) (text_parts p is.right.uploads)
          ∙ ap (ended false position) (lead ∙ stopped false number t (lines_of (token_lines p)) refl);
      is = refl;
    }

-- ---- all sections
one_section : (position number : ℕ) (first last : Bool) (before after : SoFar) (p : PartReport)
    (s : FrontsView) → s.part ≡ p.totals → s.last ≡ before.last → IsNextPart first last before p after
    → (next : ℕ) × (read_of true position number (tokens_at s (length p.tokens) s.last no_sums)
    (lines_of (token_lines p)) ≡ Ok (next, tokens_at s 0 (last_of s.last p.tokens) s.part, []))
one_section position number first last before after p s same at is =
    let r = is.right in
    let (next, read) = (tokens_taken s s.last no_sums s.part p.tokens r.tokens (rw at is.increase)
    (rw same r.tokens_add)).on number [] in
    (next, rw (← (append-nil (token_lines p)), read, tokens_end s (last_of s.last p.tokens)))

sections_shown : (s : FrontsView) (done : List PartView) (first : Bool) (before after : SoFar)
    (parts : List PartReport) (opens : List PartView) → s.last ≡ before.last
    → are_next IsNextPart first before parts after
    → are_opened part_text token_lines opened_at IsNextPart IsAfter parts opens
    → (end : FrontsView × List PartView) × (read_all true s done opens ≡ Ok end)
sections_shown s done first before after [] [] same are opened_all = ((s, done), refl)
sections_shown s done first before after [] (opening ∷ opens) same are opened_all = absurd opened_all
sections_shown s done first before after (p ∷ ps) [] same are opened_all = absurd opened_all
sections_shown s done first before after (p ∷ ps) (opening ∷ opens) same (next, is, more)
    (number, shown, others) =
    let here = at_part (length done) (is_none_left opens) (Tokens (length p.tokens)) p.totals s in
    let (after_it, one) =
    one_section (length done) number first (is_none_left ps) before next p here refl same is in
    let then = tokens_at here 0 (last_of s.last p.tokens) p.totals in
    let (end, rest) = sections_shown then (done ++ left_of (after_it, then, []) ∷ []) false next after
    ps opens (ap (λ last. last_of last p.tokens) same ∙ sym is.last_is) more others in
    (end, rw (shown, one) rest)

tokens_flat : (parts : List PartReport)
    → flat_map token_lines parts ≡ flat_map token_line (tokens_of parts)
tokens_flat [] = refl
tokens_flat (p ∷ ps) =
    ap (λ (t : List ℕ). token_lines p ++ t) (tokens_flat ps)
    ∙ sym (flat_map-append token_line p.tokens (tokens_of ps))

tokens_counted : (first : Bool) (before after : SoFar) (parts : List PartReport)
    → are_next IsNextPart first before parts after
    → after.tokens ≡ before.tokens + length (tokens_of parts)
tokens_counted first before after [] are =
    (let e : before.tokens ≡ after.tokens = ap (λ (s : SoFar). s.tokens) are in omega (arith, e))
tokens_counted first before after (p ∷ ps) (next, is, more) =
    let rest = tokens_counted false next after ps more in
    let one = is.tokens in
    let both = length-append p.tokens (tokens_of ps) in
    omega (arith, rest, one, both)

-- THE law: the parts' reports are merged into the report of the whole
pub reports_merge : (p : PartReport) (ps : List PartReport) (all : SoFar)
    → are_next IsNextPart true nothing_so_far (p ∷ ps) all
    → merge_of (map part_text (p ∷ ps)) ≡ Ok (whole_text all (p ∷ ps))
reports_merge p ps all are =
    let fronts = fronts_shown part_text token_lines opened_at IsNextPart IsAfter front_shown no_fronts
    [] (p ∷ ps) nothing_so_far all are (true, false, Head, no_sums, no_sums, refl) in
    let (f, l, stage, part, so_far, same) = fronts.now in
    let (end, sections) = sections_shown no_fronts [] true nothing_so_far all (p ∷ ps) fronts.more refl
    are fronts.opened in
    let number : all.tokens ≡ length (tokens_of (p ∷ ps)) =
    (let n = tokens_counted true nothing_so_far all (p ∷ ps) are in omega (arith, n)) in
    rw (
      fronts.read,
      same,
      sections,
      left_shown part_text token_lines opened_at IsNextPart IsAfter (λ number p. refl) (p ∷ ps)
          fronts.more fronts.opened
          ∙ tokens_flat (p ∷ ps),
      number,
    )
    (ap Ok (joined (uploads_section (map Posted all.taps)) (totals_line all.totals)
    (validators_section all.validators)
    (number_line (codes "tokens ") (length (tokens_of (p ∷ ps)))) token_text))
  where
    token_text : List ℕ
    token_text = flat_map token_line (tokens_of (p ∷ ps))

    joined : (u t v n l : List ℕ) → (u ++ (t ++ (v ++ n))) ++ l ≡ u ++ (t ++ (v ++ (n ++ l)))
    joined u t v n l = simp append_assoc
