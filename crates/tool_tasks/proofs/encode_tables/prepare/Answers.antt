use Rattle.std.proofs.Common.{◌≡◌, Bor, List, Option, None, Some, inl, inr, refl, subst, sym, ℕ}
use Rattle.frame.proofs.Outcomes.{stops_weaker}
use Rattle.frame.specs.Outsides.{Stops}
use Rattle.std.proofs.lemmas.Result.{MatchResult-weaker, err_from_is_err_and}
use Rattle.std.specs.Prelude.{Contains, Err, MatchResult, Vec, option_copied, option_map}
use Rattle.std.specs.declared.alloc.Global.{Global}
use Rattle.tap_rows.specs.{Devices.devices_of, Keys.key_of}
use Rattle.tap_rows.specs.declared.agency.key.{TokenKey.TokenKey, WrongKey.WrongKey}
use Rattle.tool_tasks.specs.EncodeRows.{HasDevices, IsWrongCsv, word_in}
use Rattle.tool_tasks.specs.{EncodeTables.HasNoZone, EncodeTables.IsKey, declared.stops.Halt.Halt}
use Rattle.tool_tasks.specs.inside.EncodeRows.{IsPrepared, IsTable, csvs_of, texts_in}
use Rattle.tool_tasks.proofs.encode_tables.prepare.Goals as goal

pub returns-in_err-devices : goal.returns-in_err-devices
returns-in_err-devices c =
    let e = err_from_is_err_and c.from_residual.result c.from_residual.ensures.1 in
    rw (e.1, e.2) (stops_weaker (λ wrong. inr (inl wrong)) c.in_err-devices.field-0.0.0
    c.in_err-devices.ensures.stopped)

pub returns-in_err-key : goal.returns-in_err-key
returns-in_err-key c =
    let e = err_from_is_err_and c.from_residual-in_err-key.result
    c.from_residual-in_err-key.ensures.1 in
    let why = c.in_err-key.field-0.0.0 in
    rw (e.1, e.2) (stops_weaker (λ wrong. inr (inr (inl wrong))) why
    (subst (λ (t : List ℕ). Stops ((wrong : WrongKey) × (key_of t ≡ Err wrong)) why)
    c.deref.ensures.value c.in_err-key.ensures.stopped))

pub returns-in_err-table : goal.returns-in_err-table
returns-in_err-table c =
    let e = err_from_is_err_and c.from_residual-in_err-table.result
    c.from_residual-in_err-table.ensures.1 in
    let why = c.in_err-table.field-0.0.0 in
    rw (e.1, e.2) (stops_weaker (λ wrong. inr (inr (inr wrong))) why
    (subst (λ (t : List ℕ). Stops (HasNoZone (word_in c.args.words.now.zone) t) why)
    c.deref-2.ensures.value c.in_err-table.ensures.stopped))

-- what is copied is what is referred to
copied : {A B : Type 0} (f : A → B) (o : Option (Bor A)) (x : Option A) → option_copied o ≡ x
    → option_map f x ≡ option_map (λ r. f r.now) o
copied f None x is = rw (← is) refl
copied f (Some r) x is = rw (← is) refl

pub returns : goal.returns
returns c =
    let words = c.args.words.now in
    let texts = texts_in c.args.texts.now in
    let choice = c.choice-choice.result in
    let clock = c.clock_of-clock.ensures texts.zone
    (subst (λ (t : List ℕ). IsTable (word_in words.zone) t (option_copied c.as_ref.result))
    c.deref-2.ensures.value (subst (IsTable (word_in words.zone) c.deref-2.result.now)
    (sym c.as_ref.ensures.value) c.in_ok-table.ensures.table)) in
    let devices = subst (HasDevices words c.args.is_there texts)
    (copied devices_of c.as_ref-2.result c.in_ok-devices.devices c.as_ref-2.ensures.value)
    c.in_ok-devices.ensures.used in
    let key = subst (λ (t : List ℕ).
    IsKey (word_in words.key) t (option_map (λ k. k.now.block) c.as_ref-3.result))
    c.deref.ensures.value (subst (IsKey (word_in words.key) c.deref.result.now)
    (copied (λ (k : TokenKey). k.block) c.as_ref-3.result c.in_ok-key.key
    c.as_ref-3.ensures.value) c.in_ok-key.ensures.key) in
    let is = c.choice-choice.ensures c.args.is_there texts devices key clock in
    MatchResult-weaker c.prepare_csvs.result
    (subst (λ (cs : List (Vec ℕ Global)). MatchResult c.prepare_csvs.result
    (IsPrepared words choice (csvs_of cs))
    (λ (halt : Halt). Stops ((csv : List ℕ) × Contains (csvs_of cs) csv
    × IsWrongCsv words choice csv) halt.0)) c.deref-3.ensures.value c.prepare_csvs.ensures)
    (λ prepared made. (choice, is, made))
    (λ halt stops. stops_weaker (λ wrong. inl (choice, is, wrong.0, wrong.1, wrong.2)) halt.0 stops)
