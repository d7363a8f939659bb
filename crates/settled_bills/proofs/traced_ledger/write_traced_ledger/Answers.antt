use Rattle.std.proofs.Common.{◌≡◌, ◌∙◌, ℕ, Bool, List, ◌∷◌, None, Vec, Global, map, refl, subst}
use Rattle.std.proofs.Common.{sym}
use Rattle.class_names.specs.Names.{class_by}
use Rattle.fare_texts.specs.{Ledger.IsLedgerOver, WrittenOut.Begins}
use Rattle.settled_bills.proofs.Settled.{trace_settled}
use Rattle.settled_bills.specs.Columns.{columns_by, head_columns, with_columns}
use Rattle.settled_bills.specs.{Ledgers.IsTracedLedger, Traces.IsTrace, Traces.taps_of_trace}
use Rattle.settled_bills.specs.declared.trace.TracedTap.{TracedTap}
use Rattle.settlement.specs.{Posted.posted, Settled.IsSettledHistory, SettledTaps.AreSettledTaps}
use Rattle.std.proofs.lemmas.Result.{err_from_is_err_and}
use Rattle.std.specs.Io.KnownBytes.{Appends}
use Rattle.tariffs.specs.Fares.{Fares}
use Rattle.settled_bills.proofs.traced_ledger.write_traced_ledger.Goals as goal

abbrev bytes_in : Vec ℕ Global → List ℕ
bytes_in upload = upload.items

pub write_trace-requires : goal.write_trace-requires
write_trace-requires g c =
    let files = map bytes_in c.args.uploads.now in (
      files,
      subst (λ (ts : List TracedTap). AreSettledTaps files (taps_of_trace ts))
          (sym c.deref.ensures.value)
          (trace_settled files c.in_ok-trace.trace.taps.items c.in_ok-trace.trace.whole
          c.in_ok-trace.ensures c.unique_parse_each.ensures c.plain_history.ensures.some
          c.plain_history.ensures.fields),
    )

-- what is said of the text of a given trace
shown : (fares : Fares) (classes : ℕ → List ℕ → List ℕ) (files : List (List ℕ))
    (trace given : List TracedTap) (whole : Bool) (said : List ℕ → Type 0)
    → IsTrace files trace whole
    → IsSettledHistory fares files (posted fares (taps_of_trace trace)) → given ≡ trace
    → (untraced : List ℕ)
    × IsLedgerOver fares (posted fares (taps_of_trace given)) None untraced
    × said (with_columns untraced (head_columns ∷ columns_by classes given))
    → (text : List ℕ) × IsTracedLedger classes fares files text whole × said text
shown fares classes files trace given whole said is settled same (untraced, ledger, out) = (
  with_columns untraced (head_columns ∷ columns_by classes trace),
  record {
    trace = trace;
    is_trace = is;
    is_settled = settled;
    untraced = untraced;
    is_ledger = subst (λ (ts : List TracedTap). IsLedgerOver fares (posted fares (taps_of_trace ts))
        None untraced) same ledger;
    shown = refl;
  },
  subst (λ (ts : List TracedTap). said (with_columns untraced (head_columns ∷ columns_by classes
      ts))) same out,
)

pub returns-clause-ok : goal.returns-clause-ok
returns-clause-ok g c =
    let fares = c.args.table.now in
    let files = map bytes_in c.args.uploads.now in
    let trace = c.in_ok-trace.trace.taps.items in
    shown fares (class_by c.args.names.now) files trace c.deref.result.now
    c.in_ok-trace.trace.whole
    (Appends (g.W.Write.contents c.args.out.now) (g.W.Write.contents c.write_trace.new.out))
    c.in_ok-trace.ensures
    (c.posted_taps.ensures.history fares files (taps_of_trace trace)
    (trace_settled files trace c.in_ok-trace.trace.whole c.in_ok-trace.ensures
    c.unique_parse_each.ensures c.plain_history.ensures.some c.plain_history.ensures.fields))
    c.deref.ensures.value c.in_ok-write_trace.ensures.ok

-- what a write that failed left
pub returns-in_err-write_trace-clause-started : goal.returns-in_err-write_trace-clause-started
returns-in_err-write_trace-clause-started g c =
    let fares = c.args.table.now in
    let files = map bytes_in c.args.uploads.now in
    let trace = c.in_ok-trace.trace.taps.items in
    let p = err_from_is_err_and c.from_residual-in_err-write_trace.result
    c.from_residual-in_err-write_trace.ensures.1 in
    rw p.1 (λ write.
    let (text, is, begins) = shown fares (class_by c.args.names.now) files trace
    c.deref.result.now c.in_ok-trace.trace.whole
    (Begins (g.W.Write.contents c.args.out.now) (g.W.Write.contents c.write_trace.new.out))
    c.in_ok-trace.ensures
    (c.posted_taps.ensures.history fares files (taps_of_trace trace)
    (trace_settled files trace c.in_ok-trace.trace.whole c.in_ok-trace.ensures
    c.unique_parse_each.ensures c.plain_history.ensures.some c.plain_history.ensures.fields))
    c.deref.ensures.value (c.in_err-write_trace.ensures.started (sym p.2 ∙ write)) in
    (text, c.in_ok-trace.trace.whole, is, begins))
