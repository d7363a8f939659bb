use Rattle.std.proofs.Common.{◌≡◌, ◌⊎◌, ◌≤◌, ◌∙◌, take, drop, length, codes, arith, rules}
use Rattle.tap_views.proofs.{Deciding.rows_before, Numbers.number_read}
use Rattle.tap_views.specs.Faults.{header, layout_in, flags_in, count_in}
use Rattle.tap_views.proofs.batch.count_of.Goals as goal

pub returns-then-count-clause-fault : goal.returns-then-count-clause-fault
returns-then-count-clause-fault c =
    let bytes = c.args.bytes.now in
    let flags : c.read_u16.result ≡ flags_in bytes =
    c.read_u16.ensures ∙ number_read 2 (take 2 (drop 6 bytes)) (search rules) in
    let no_flags : flags_in bytes ≡ 0 = omega (arith, flags) in
    let count : c.read_u16-count.result ≡ count_in bytes =
    c.read_u16-count.ensures ∙ number_read 2 (take 2 (drop 4 bytes)) (search rules) in
    let whole : header (layout_in bytes) ≤ length bytes = search rules in
    let known : (take 4 bytes ≡ codes "TAP1") ⊎ (take 4 bytes ≡ codes "TAP2") = search rules in
    record {
      holds = (count, omega arith);
      first = rows_before bytes 4 (omega arith) (λ _. whole) (λ _. known) (λ _. no_flags) (λ none.
          absurd (omega (arith, none))) (λ none. absurd (omega (arith, none)));
    }

pub returns-clause-count : goal.returns-clause-count
returns-clause-count c =
    let bytes = c.args.bytes.now in
    let flags : c.read_u16.result ≡ flags_in bytes =
    c.read_u16.ensures ∙ number_read 2 (take 2 (drop 6 bytes)) (search rules) in
    let count : c.read_u16-count.result ≡ count_in bytes =
    c.read_u16-count.ensures ∙ number_read 2 (take 2 (drop 4 bytes)) (search rules) in
    record {
      whole = search rules;
      known = search rules;
      no_flags = omega (arith, flags);
      count = count;
      most = omega arith;
    }
