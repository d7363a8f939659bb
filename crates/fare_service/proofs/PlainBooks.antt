-- The entries of a token in what was gathered are those of the plain history.
use Rattle.std.proofs.Common.{refl, sym, ◌∙◌, ap, inl, inr, subst, arith, get_or, eq-eqb, ne_eqb}
use Rattle.std.proofs.Common.{mod-lt}
use Rattle.fare_service.proofs.{CloseLemmas.there, GatherLemmas.each_work, GatheredWork.Given}
use Rattle.fare_service.proofs.{HeadlineLemmas.gathered_of, OrderLemmas.reordered}
use Rattle.fare_service.proofs.OwnVisits.{filter_none, works_on}
use Rattle.fare_service.proofs.PlacingLemmas.{filter-map, filter_within, posted_reported}
use Rattle.fare_service.proofs.PlainLists.{Passes, alone_at, passes_alone}
use Rattle.fare_service.specs.{Headline.Headline, Outcomes.OutcomeView, Plain.AreApart}
use Rattle.fare_service.specs.Placing.{OccurOnce, Origin, WerePostedOf, in_posting_order, of_upload}
use Rattle.fare_service.specs.Placing.{posted_of}
use Rattle.fare_service.specs.{Plain.WasNotCut, Runs.RunVisit, Shares.Worked, Shares.IsWorkOf}
use Rattle.fare_service.specs.Shares.{all_visits, all_works, file_at}
use Rattle.histories.proofs.PlainFields.{IsName}
use Rattle.histories.proofs.PlainReplies.{bare, own_bare, plain_bare, plain_legal, same_replies}
use Rattle.histories.specs.{Entry.is_of, Entry.own, Entry.IsEntryOf, Keys.same_token}
use Rattle.histories.specs.Plain.{IsNamed, unanswered, token_of_bytes, plain}
use Rattle.histories.specs.declared.entry.Entry.{Entry}
use Rattle.shard_book.specs.Book.{Book}
use Rattle.std.proofs.lemmas.{Bool.cases_lt, Bool.Decides.eqb_tells, Bool.false_from_ne_true}
use Rattle.std.proofs.lemmas.{List.get_or_past, Option.slice_get-get_or, Slice.Zip.AllZip-long}
use Rattle.std.proofs.lemmas.List.Elements.{All-nil, All-cons, All-contains, All-filter, All-head}
use Rattle.std.proofs.lemmas.List.Elements.{All-map, All-tail, All-weaker}
use Rattle.std.specs.{List.flat_map, List.AllZip, Prelude.ℕ, Prelude.zero, Prelude.suc, Prelude.◌≡◌}
use Rattle.std.specs.Prelude.{◌≢◌, ◌⊎◌, ◌<◌, ◌≤◌, ◌==◌, Bool, true, false, cond, List, [], ◌∷◌, length}
use Rattle.std.specs.Prelude.{map, filter, All, Some, slice_get}
use Rattle.tap_views.specs.Files.{IsFile, AreValidTaps, AreValidTapsOfEach, HasUniqueParse}
use Rattle.tap_views.specs.{Layout.Tap, Layout.num, Shards.shard_of_token, Shards.run_of}
use Rattle.tap_views.specs.{Token.bytes_of, declared.token.Token.Token}
use Rattle.tap_views.specs.declared.upload_end.UploadEnd.{UploadEnd}
use Rattle.tap_views.specs.declared.upload_end.UploadEnd.TheVariants.{Posted, Refused, Cut, Undrawn}

-- ---- taps and entries that are named by their bytes
abbrev fields : Token → ℕ → ℕ → Entry
fields token validator moment =
    bare (record {
      token = token;
      validator = validator;
      moment = moment;
      answer =
          (unanswered (record { token = []; validator = []; moment = [] })).answer;
      cents = 0;
    })

same_fields : (t u : Token) (v w m n : ℕ) → t ≡ u → v ≡ w → m ≡ n → fields t v m ≡ fields u w n
same_fields t u v w m n a b c = cc

-- entries that are named by their bytes have the fields of the taps for which they stand
named_entries : (origins : List Origin) (entries : List Entry)
    → AllZip (λ origin entry. IsEntryOf origin.tap entry) origins entries → All IsNamed entries
    → (map bare entries ≡ map unanswered (map (λ o. o.tap) origins))
    × All (λ o. IsName o.tap) origins
named_entries [] [] zip named = (refl, All-nil (λ (o : Origin). IsName o.tap))
named_entries [] (entry ∷ entries) zip named = absurd zip
named_entries (o ∷ origins) [] zip named = absurd zip
named_entries (o ∷ origins) (entry ∷ entries) zip named =
    let (same, names) = named_entries origins entries zip.1
    (All-tail IsNamed entry entries named) in
    let is : entry.token ≡ token_of_bytes o.tap.token =
    All-head IsNamed entry entries named ∙ ap token_of_bytes zip.0.token in
    let here : bare entry ≡ unanswered o.tap =
    same_fields entry.token (token_of_bytes o.tap.token) entry.validator (num o.tap.validator)
    entry.moment (num o.tap.moment) is zip.0.validator zip.0.moment in (
      ap (λ e. e ∷ map bare entries) here ∙ ap (λ es. unanswered o.tap ∷ es) same,
      All-cons (λ x. IsName x.tap) o origins (ap bytes_of (sym is) ∙ zip.0.token) names,
    )

-- what holds of the taps of each shard holds of all
all_shards : (P : Tap → Type 0) (shards : ℕ) (taps : List Tap) → 0 < shards
    → ((shard : ℕ) → shard < shards → All P (run_of shard shards taps)) → All P taps
all_shards P shards [] some each = All-nil P
all_shards P shards (tap ∷ taps) some each =
    All-cons P tap taps here
    (all_shards P shards taps some
    (λ shard within. by_test (shard_of_token tap.token shards == shard)
    (run_of shard shards taps) (each shard within)))
  where
    here : P tap
    here =
        let shard = shard_of_token tap.token shards in
        let test : (shard == shard) ≡ true = eq-eqb shard shard refl in
        All-head P tap (run_of shard shards taps)
        (subst (λ b. All P (cond b (tap ∷ run_of shard shards taps) (run_of shard shards taps)))
        test (each shard (mod-lt _ some)))

    by_test : (b : Bool) (ts : List Tap) → All P (cond b (tap ∷ ts) ts) → All P ts
    by_test true ts all = All-tail P tap ts all
    by_test false ts all = all

-- whether a tap is the token's
abbrev has : Token → Tap → Bool
has token tap = is_of token (unanswered tap)

token_is : (token : Token) (tap : Tap) → IsName tap → has token tap ≡ true
    → tap.token ≡ bytes_of token
token_is token tap name is =
    sym name ∙ ap bytes_of (same_token (token_of_bytes tap.token) token is)

-- the taps of a token are taps of its shard
own_run : (token : Token) (shards : ℕ) (taps : List Tap) → All IsName taps
    → filter (has token) taps
    ≡ filter (has token) (run_of (shard_of_token (bytes_of token) shards) shards taps)
own_run token shards taps names =
    let shard = shard_of_token (bytes_of token) shards in
    filter_within (has token) (λ tap. shard_of_token tap.token shards == shard) taps
    (All-weaker IsName
    (λ tap. has token tap ≡ true → (shard_of_token tap.token shards == shard) ≡ true)
    (λ tap name is. eq-eqb (shard_of_token tap.token shards) shard
    (ap (λ bytes. shard_of_token bytes shards) (token_is token tap name is))) taps names)

own_taps_are : (token : Token) (taps : List Tap)
    → own token (map unanswered taps) ≡ map unanswered (filter (has token) taps)
unfolding own
own_taps_are token taps = filter-map (is_of token) unanswered taps

-- ---- taps of which those that pass are one upload's
shorter : (p : Tap → Bool) (b : Bool) (o : Origin) (os : List Origin)
    → filter p (map (λ x. x.tap) (cond b (o ∷ os) os)) ≡ [] → filter p (map (λ x. x.tap) os) ≡ []
shorter p false o os none = none
shorter p true o os none = by_test (p o.tap) none
  where
    by_test : (b : Bool)
        → cond b (o.tap ∷ filter p (map (λ x. x.tap) os)) (filter p (map (λ x. x.tap) os)) ≡ []
        → filter p (map (λ x. x.tap) os) ≡ []
    by_test true e = absurd (cc)
    by_test false e = e

of_one : (p : Tap → Bool) (at : ℕ) (origins : List Origin)
    → ((upload : ℕ) → upload ≢ at → filter p (of_upload upload origins) ≡ [])
    → filter p (map (λ o. o.tap) origins) ≡ filter p (of_upload at origins)
of_one p at [] others = refl
of_one p at (o ∷ os) others =
    by_test (eqb_tells o.upload at)
    (of_one p at os (λ upload ne. shorter p (o.upload == upload) o
    (filter (λ x. x.upload == upload) os) (others upload ne)))
  where
    ours : Bool → List Tap
    ours b = filter p
        (map (λ x. x.tap)
        (cond b (o ∷ filter (λ x. x.upload == at) os) (filter (λ x. x.upload == at) os)))

    by_test : (((o.upload == at) ≡ true) × (o.upload ≡ at))
        ⊎ (((o.upload == at) ≡ false) × (o.upload ≢ at))
        → filter p (map (λ x. x.tap) os) ≡ filter p (of_upload at os)
        → filter p (map (λ x. x.tap) (o ∷ os)) ≡ filter p (of_upload at (o ∷ os))
    by_test (inl (b, e)) rest =
        ap (λ ts. cond (p o.tap) (o.tap ∷ ts) ts) rest ∙ sym (ap ours b)
    by_test (inr (b, ne)) rest =
        let own = filter (λ (x : Origin). x.upload == o.upload) os in
        let none : filter p (o.tap ∷ map (λ x. x.tap) own) ≡ [] =
        sym (ap (λ t. filter p (map (λ (x : Origin). x.tap) (cond t (o ∷ own) own)))
        (eq-eqb o.upload o.upload refl)) ∙ others o.upload ne in
        let not_passed : p o.tap ≡ false =
        false_from_ne_true (p o.tap)
        (λ is. let h : o.tap ∷ filter p (map (λ x. x.tap) own) ≡ [] =
        sym (ap (λ t. cond t (o.tap ∷ filter p (map (λ (x : Origin). x.tap) own))
        (filter p (map (λ (x : Origin). x.tap) own))) is) ∙ none in absurd (cc)) in
        ap (λ t. cond t (o.tap ∷ filter p (map (λ (x : Origin). x.tap) os))
        (filter p (map (λ (x : Origin). x.tap) os))) not_passed
        ∙ rest ∙ sym (ap ours b)

-- ---- all that was gathered
-- what the laws of a gathering stand on: no upload was cut or left undrawn, and each token of the
-- books is the name of its bytes
pub record Represents (given : Given) (works : List (List Worked)) (outcome : OutcomeView)
    (taps : List (List Tap)) : Type 0 where
  pub headline : Headline given.table given.shards given.uploads works outcome
  pub some_shard : 0 < given.shards
  pub named : (shard : ℕ) (book : Book) → slice_get outcome.books shard ≡ Some book
      → All IsNamed book.entries
  pub whole : All WasNotCut outcome.ends
  pub cuts : All HasUniqueParse given.uploads
  pub each : AreValidTapsOfEach given.uploads taps

valid_taps : (uploads : List (List ℕ)) (taps : List (List Tap)) (upload : ℕ)
    → AreValidTapsOfEach uploads taps → upload < length uploads
    → AreValidTaps (file_at uploads upload) (get_or taps upload [])
valid_taps [] taps upload each within = absurd (omega (arith, within))
valid_taps (file ∷ uploads) [] upload each within = absurd each
valid_taps (file ∷ uploads) (ts ∷ taps) zero each within = each.0
valid_taps (file ∷ uploads) (ts ∷ taps) (suc upload) each within =
    valid_taps uploads taps upload each.1 (omega (arith, within))

module _ (given : Given) (works : List (List Worked)) (outcome : OutcomeView)
    (taps : List (List Tap)) (all : Represents given works outcome taps) where
  -- an upload was posted whole
  posted_whole : (upload : ℕ) → upload < length given.uploads
      → (batches : List (List Tap)) × (rest : List ℕ)
      × IsFile (file_at given.uploads upload) batches rest
      × (posted_of upload (all_works works) ≡ in_posting_order given.shards batches)
  posted_whole upload within =
      let few : upload < length outcome.ends = omega (arith, within, all.headline.uploads) in
      by_end (get_or outcome.ends upload Undrawn)
      (posted_reported given works outcome (gathered_of given works outcome all.headline) upload
      (get_or outcome.ends upload Undrawn) (slice_get-get_or outcome.ends upload Undrawn few))
      (all.whole upload Undrawn few)
    where
      by_end : (end : UploadEnd)
          → WerePostedOf given.shards (file_at given.uploads upload) end
          (posted_of upload (all_works works)) → WasNotCut end
          → (batches : List (List Tap)) × (rest : List ℕ)
          × IsFile (file_at given.uploads upload) batches rest
          × (posted_of upload (all_works works) ≡ in_posting_order given.shards batches)
      by_end (Posted number) was whole = (was.0, [], was.1, was.2)
      by_end (Refused number offset fault) was whole = (was.0, was.1, was.2, was.4)
      by_end (Cut number) was whole = absurd whole
      by_end Undrawn was whole = absurd whole

  -- of each upload the posted taps of a shard are those of the upload
  taps_are : (shard upload : ℕ) → shard < given.shards
      → run_of shard given.shards (posted_of upload (all_works works))
      ≡ run_of shard given.shards (get_or taps upload [])
  taps_are shard upload below = by_position (cases_lt upload (length given.uploads))
    where
      by_position : (upload < length given.uploads) ⊎ (length given.uploads ≤ upload)
          → run_of shard given.shards (posted_of upload (all_works works))
          ≡ run_of shard given.shards (get_or taps upload [])
      by_position (inl within) =
          let w = posted_whole upload within in
          let t = valid_taps given.uploads taps upload all.each within in
          let same = all.cuts upload [] within t.batches w.0 t.rest w.1 t.is_file w.2 in
          ap (run_of shard given.shards) w.3
          ∙ (reordered given.shards w.0 all.some_shard).same shard below
          ∙ ap (run_of shard given.shards)
          (ap (flat_map (λ (batch : List Tap). batch)) (sym same.0) ∙ sym t.all)
      by_position (inr past) =
          let none : works_on upload (all_works works) ≡ [] =
          filter_none (λ w. w.upload == upload) (all_works works)
          (All-weaker (IsWorkOf given.shards given.uploads) (λ w. (w.upload == upload) ≡ false)
          (λ w is. ne_eqb w.upload upload (λ e. omega (arith, e, is.within, past)))
          (all_works works) (each_work given works all.headline.worked)) in
          ap (λ ws. run_of shard given.shards (flat_map (λ (v : RunVisit). v.taps) (all_visits ws)))
          none
          ∙ ap (run_of shard given.shards) (sym (get_or_past taps upload []
          (omega (arith, past, AllZip-long AreValidTaps given.uploads taps all.each))))

  names : (upload : ℕ) → All IsName (get_or taps upload [])
  names upload = all_shards IsName given.shards (get_or taps upload []) all.some_shard of_shard
    where
      of_shard : (shard : ℕ) → shard < given.shards
          → All IsName (run_of shard given.shards (get_or taps upload []))
      of_shard shard below =
          let b = there outcome.books shard (omega (arith, below, all.headline.shards_are)) in
          let o = all.headline.occur_once shard b.0 b.1 in
          let N : List Tap → Type 0 = All IsName in
          subst N (o.exactly upload ∙ taps_are shard upload below)
          (All-map IsName (λ (x : Origin). x.tap) (filter (λ x. x.upload == upload) o.origins)
          (All-filter (λ x. x.upload == upload) (λ x. IsName x.tap) o.origins
          (named_entries o.origins b.0.entries o.fields (all.named shard b.0 b.1)).1))

  pub own_plain : AreApart taps → (token : Token) (book : Book)
      → slice_get outcome.books (shard_of_token (bytes_of token) given.shards) ≡ Some book
      → own token book.entries ≡ own token (plain given.table (flat_map (λ ts. ts) taps))
  own_plain apart token book at =
      let whole = flat_map (λ (ts : List Tap). ts) taps in
      same_replies given.table token book.entries (plain given.table whole)
      (all.headline.legal shard book at) (plain_legal given.table whole)
      (own_bare token book.entries ∙ ap (own token) entries.0
      ∙ own_taps_are token (map (λ o. o.tap) o.origins)
      ∙ ap (map unanswered)
      (of_one (has token) alone.0 o.origins (λ upload ne. own_of upload ∙ alone.1 upload ne)
      ∙ own_of alone.0 ∙ sym (passes_alone (has token) (λ ts. ts) taps [] alone.0 refl alone.1))
      ∙ sym (own_bare token (plain given.table whole)
      ∙ ap (own token) (plain_bare given.table [] whole) ∙ own_taps_are token whole))
    where
      shard : ℕ
      shard = shard_of_token (bytes_of token) given.shards

      o : OccurOnce shard given.shards (all_works works) book.entries
      o = all.headline.occur_once shard book at

      entries : (map bare book.entries ≡ map unanswered (map (λ x. x.tap) o.origins))
          × All (λ x. IsName x.tap) o.origins
      entries = named_entries o.origins book.entries o.fields (all.named shard book at)

      -- the token's taps of an upload in the book are those of the upload
      own_of : (upload : ℕ) → filter (has token) (of_upload upload o.origins)
          ≡ filter (has token) (get_or taps upload [])
      own_of upload =
          ap (filter (has token)) (o.exactly upload ∙ taps_are shard upload (mod-lt _ all.some_shard))
          ∙ sym (own_run token given.shards (get_or taps upload []) (names upload))

      held : (upload : ℕ) → Passes (has token) (get_or taps upload [])
          → slice_get taps upload ≡ Some (get_or taps upload [])
      held upload one = by_position (cases_lt upload (length taps))
        where
          by_position : (upload < length taps) ⊎ (length taps ≤ upload)
              → slice_get taps upload ≡ Some (get_or taps upload [])
          by_position (inl within) = slice_get-get_or taps upload [] within
          by_position (inr past) =
              absurd (omega (arith, one.there.1, ap length (get_or_past taps upload [] past)))

      token_at : (upload : ℕ) → (one : Passes (has token) (get_or taps upload []))
          → one.one.token ≡ bytes_of token
      token_at upload one =
          token_is token one.one
          (All-contains IsName (get_or taps upload []) one.one (names upload) one.there) one.passed

      alone : (position : ℕ)
          × ((i : ℕ) → i ≢ position → filter (has token) (get_or taps i []) ≡ [])
      alone = alone_at (has token) taps
          (λ i j one other. apart i j (get_or taps i []) (get_or taps j []) one.one other.one
          (held i one) (held j other) one.there other.there
          (token_at i one ∙ sym (token_at j other)))
