use Rattle.std.proofs.Common.{◌≡◌, ◌∙◌, ◌++◌, ◌∷◌, [], List, ap, subst, sym, ℕ}
use Rattle.ledger_check.specs.{Balances.AreValidFields, Balances.IsBalance}
use Rattle.omny_audit.proofs.ProgramLemmas.{same_fields}
use Rattle.omny_audit.specs.{Program.taps_in}
use Rattle.std.proofs.lemmas.List.{flat_map_more}
use Rattle.tap_views.proofs.{Lists.AllZip-append}
use Rattle.tap_views.specs.UploadEnds.{ArePlainEnds, IsPlainEnd, end_by}
use Rattle.tap_views.specs.declared.encoder.TapFields.{TapFields}
use Rattle.omny_audit.proofs.program.add_upload.Goals as goal

pub returns : goal.returns
returns c = λ files lists are.
    let upload = c.args.upload.now in
    let (taps, valid, balanced) = c.in_ok-add_upload.ensures in
    let (list, are_list, placed) = c.in_ok-add_upload-2.ensures in
    let facts = c.facts_of-facts.ensures in
    let fault = c.facts_of-facts.result.fault in
    let all : taps_in lists ++ taps ≡ taps_in (lists ++ list ∷ []) =
    ap (λ (t : List TapFields). taps_in lists ++ t) (same_fields upload taps list valid are_list)
    ∙ flat_map_more (λ (l : List TapFields). l) [] lists list in (
      list,
      record {
        are_lists = AllZip-append AreValidFields files lists (upload ∷ []) (list ∷ []) are.are_lists
            (are_list, tt);
        balance = subst (λ (t : List TapFields). IsBalance c.add_upload.new.self t []) all
            (balanced (taps_in lists) are.balance);
        positions = placed lists are.positions;
        ends = subst (ArePlainEnds (files ++ upload ∷ [])) (sym c.in_ok-push.ensures.items)
            (AllZip-append IsPlainEnd files c.args.uploads.now.ends.items (upload ∷ [])
            (c.by_fault.result ∷ []) are.ends (
              record {
                batches = facts.read_batches;
                rest = facts.read.rest;
                fault = fault;
                is_file = facts.read.is_file;
                is_fault = facts.read.is_end;
                ended = c.by_fault.ensures ∙ ap (λ (n : ℕ). end_by n fault) facts.tap_number;
              },
              tt,
            ));
      },
    )
