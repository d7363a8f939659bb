-- A token's explained statement as JSON: what its text has, as a function of the same entries.
use Rattle.account_rule.specs.declared.no_transfer.NoTransfer.{NoTransfer, TheVariants.FirstTap}
use Rattle.account_rule.specs.declared.no_transfer.NoTransfer.TheVariants.{TooLate, AfterTransfer}
use Rattle.account_rule.specs.declared.no_transfer.NoTransfer.TheVariants.{NoneGiven, NotPermitted}
use Rattle.account_rule.specs.declared.no_transfer.NoTransfer.TheVariants.{RideTooLate}
use Rattle.account_rule.specs.declared.reason.Charge.{Charge}
use Rattle.account_rule.specs.declared.reason.Charge.TheVariants.{Full, CeilingCut, CeilingReached}
use Rattle.account_rule.specs.declared.reason.Charge.TheVariants.{RideLimitReached}
use Rattle.account_rule.specs.declared.window.WindowView.{WindowView}
use Rattle.fare_caps.specs.{CapMeanings.capped_rules_of, CappedReplies.capped_window}
use Rattle.fare_caps.specs.declared.cap_charge.CapCharge.{CapCharge}
use Rattle.fare_caps.specs.declared.cap_charge.CapCharge.TheVariants.{ByWindow, CapCut, CapReached}
use Rattle.fare_caps.specs.declared.capped_reason.CappedReason.{CappedReason}
use Rattle.fare_caps.specs.declared.capped_reason.CappedReason.TheVariants.{PaidTransfer, Ride}
use Rattle.fare_caps.specs.declared.capped_reason.CappedReason.TheVariants.{Stale, Transfer}
use Rattle.fare_caps.specs.declared.capped_reason.CappedReason.TheVariants.{Unknown}
use Rattle.fare_texts.specs.{Explained.earlier_windows, LedgerLines.reason_after, Local.local_at}
use Rattle.fare_texts.specs.NoTransferWords.{no_transfer_after}
use Rattle.fare_texts.specs.StatementText.{answer_text, mode_text}
use Rattle.hex.specs.Hex.{encode_lower}
use Rattle.histories.specs.{Entry.tap_of, Sums.Sums, Sums.sums, declared.entry.Entry.Entry}
use Rattle.std.specs.Fmt.{decimal}
use Rattle.std.specs.Prelude.{ℕ, zero, suc, ◌+◌, ◌-◌, ◌/◌, ◌%◌, List, [], ◌∷◌, ◌++◌, Option, Some}
use Rattle.std.specs.Prelude.{None, codes, flat_map, length, map, slice_index_or}
use Rattle.tap_views.specs.{Token.bytes_of, declared.token.Token.Token}
use Rattle.tariffs.specs.{ClockView.ClockView, Fares.Fares, Fares.terms_at}
use Rattle.tariffs.specs.{TableMeaning.TableMeaning, declared.terms.Terms.Terms}

-- a moment at which clocks show this
abbrev pub shown_json : ℕ → Option (List ℕ) → List ℕ
shown_json moment None = codes "{\"ms\":" ++ (decimal moment ++ codes ",\"local\":null}")
shown_json moment (Some local) =
    codes "{\"ms\":" ++ (decimal moment ++ (codes ",\"local\":\"" ++ (local ++ codes "\"}")))

-- `{"ms":1709917200000,"local":"2024-03-08T12:00:00-05:00"}`
unfoldable pub at_json : ClockView → ℕ → List ℕ
at_json clocks moment = shown_json moment (local_at clocks.rule moment)

-- `"free_from":13,"ceiling":3500`: the first free ride of a window, and the ceiling
unfoldable pub limits_json : Terms → List ℕ
limits_json terms =
    codes "\"free_from\":" ++ (decimal (terms.rides + 1) ++ (codes ",\"ceiling\":"
    ++ decimal terms.ceiling))

-- `"fare":300,"rides":12,"free_from":13,"ceiling":3500`
unfoldable pub terms_json : Terms → List ℕ
terms_json terms =
    codes "\"fare\":" ++ (decimal terms.fare ++ (codes ",\"rides\":" ++ (decimal terms.rides
    ++ (codes "," ++ limits_json terms))))

-- the terms that are valid from a moment on
unfoldable pub dated_json : ClockView → ℕ → Terms → List ℕ
dated_json clocks from terms =
    codes ",\n{\"from\":" ++ (at_json clocks from ++ (codes "," ++ (terms_json terms ++ codes "}")))

-- the terms of the token by a table that follows
abbrev pub later_json : ClockView → List ℕ → ℕ × TableMeaning → List ℕ
later_json clocks token next = dated_json clocks next.0 (terms_at next.1 token)

-- how `window` decided the cents of a ride, and its number in its window
unfoldable pub window_charge_json : Charge → List ℕ
window_charge_json (Full position cents) =
    codes "\"kind\":\"full\",\"ride\":" ++ decimal (position + 1)
window_charge_json (CeilingCut position cents) =
    codes "\"kind\":\"ceiling-cut\",\"ride\":" ++ decimal (position + 1)
window_charge_json (CeilingReached position) =
    codes "\"kind\":\"ceiling\",\"ride\":" ++ decimal (position + 1)
window_charge_json RideLimitReached = codes "\"kind\":\"ride-limit\",\"ride\":null"

-- likewise how a cap decided them, and its name
unfoldable pub cap_json : List ℕ → ℕ → List ℕ → List ℕ
cap_json kind position name =
    codes "\"kind\":\"" ++ (kind ++ (codes "\",\"cap\":\"" ++ (name ++ (codes "\",\"ride\":"
    ++ decimal (position + 1)))))

-- either, by the names of caps
abbrev pub charge_json : List (List ℕ) → CapCharge → List ℕ
charge_json caps (ByWindow charge) = window_charge_json charge
charge_json caps (CapCut position cents cap) =
    cap_json (codes "cap-cut") position (slice_index_or caps cap [])
charge_json caps (CapReached position cap) =
    cap_json (codes "cap") position (slice_index_or caps cap [])

-- the start and the end of a window
unfoldable pub within_json : ClockView → ℕ → ℕ → List ℕ
within_json clocks start until =
    codes "\"window_start\":" ++ (at_json clocks start ++ (codes ",\"window_end\":"
    ++ at_json clocks until))

-- how `window` decided the cents of a transfer, which no limit of rides frees
abbrev pub window_transfer_json : Charge → List ℕ
window_transfer_json (Full position cents) = codes "\"kind\":\"transfer-fare\""
window_transfer_json (CeilingCut position cents) = codes "\"kind\":\"transfer-cut\""
window_transfer_json (CeilingReached position) = codes "\"kind\":\"transfer-capped\""
window_transfer_json RideLimitReached = codes "\"kind\":\"transfer-capped\""

-- likewise how a cap decided them, and its name
unfoldable pub cap_transfer_json : List ℕ → List ℕ → List ℕ
cap_transfer_json kind name =
    codes "\"kind\":\"" ++ (kind ++ (codes "\",\"cap\":\"" ++ (name ++ codes "\"")))

-- either, by the names of caps
abbrev pub transfer_json : List (List ℕ) → CapCharge → List ℕ
transfer_json caps (ByWindow charge) = window_transfer_json charge
transfer_json caps (CapCut position cents cap) =
    cap_transfer_json (codes "transfer-cut") (slice_index_or caps cap [])
transfer_json caps (CapReached position cap) =
    cap_transfer_json (codes "transfer-capped") (slice_index_or caps cap [])

-- why a tap is answered as it is, by the names of modes and of caps
abbrev pub reason_json : ClockView → List (List ℕ) → List (List ℕ) → CappedReason → List ℕ
reason_json clocks modes caps Unknown = codes "{\"kind\":\"unknown\"}"
reason_json clocks modes caps (Stale latest) =
    codes "{\"kind\":\"stale\",\"points_at\":" ++ (at_json clocks latest ++ codes "}")
reason_json clocks modes caps (Transfer moment mode) =
    codes "{\"kind\":\"transfer\",\"points_at\":" ++ (at_json clocks moment
    ++ (codes ",\"mode\":\"" ++ (slice_index_or modes mode.position [] ++ codes "\"}")))
reason_json clocks modes caps (PaidTransfer start until moment mode charge) =
    codes "{" ++ (transfer_json caps charge ++ (codes ",\"points_at\":" ++ (at_json clocks moment
    ++ (codes ",\"mode\":\"" ++ (slice_index_or modes mode.position [] ++ (codes "\","
    ++ (within_json clocks start until ++ codes "}")))))))
reason_json clocks modes caps (Ride start until charge) =
    codes "{" ++ (charge_json caps charge ++ (codes "," ++ (within_json clocks start until
    ++ codes "}")))

-- `"hours":2,"minutes":3,"seconds":10`, in whole seconds of these milliseconds
unfoldable pub gap_json : ℕ → List ℕ
gap_json gap =
    codes "\"hours\":" ++ (decimal (gap / 3_600_000) ++ (codes ",\"minutes\":"
    ++ (decimal (gap / 60_000 % 60) ++ (codes ",\"seconds\":" ++ decimal (gap / 1_000 % 60)))))

-- why a ride at the moment is no transfer, by the names of modes
abbrev pub no_transfer_json : ClockView → List (List ℕ) → ℕ → NoTransfer → List ℕ
no_transfer_json clocks modes moment FirstTap = codes "{\"kind\":\"first-tap\"}"
no_transfer_json clocks modes moment (TooLate last) =
    codes "{\"kind\":\"too-late\",\"points_at\":" ++ (at_json clocks last ++ (codes ","
    ++ (gap_json (moment - last) ++ codes "}")))
no_transfer_json clocks modes moment NoneGiven = codes "{\"kind\":\"none-given\"}"
no_transfer_json clocks modes moment (AfterTransfer last) =
    codes "{\"kind\":\"after-transfer\",\"points_at\":" ++ (at_json clocks last ++ codes "}")
no_transfer_json clocks modes moment (RideTooLate ride) =
    codes "{\"kind\":\"ride-too-late\",\"points_at\":" ++ (at_json clocks ride ++ (codes ","
    ++ (gap_json (moment - ride) ++ codes "}")))
no_transfer_json clocks modes moment (NotPermitted from to) =
    codes "{\"kind\":\"not-permitted\",\"from\":\"" ++ (slice_index_or modes from.position []
    ++ (codes "\",\"to\":\"" ++ (slice_index_or modes to.position [] ++ codes "\"}")))

-- why an entry that has this reason is no transfer: null, unless it is a ride
abbrev pub lack_json : ClockView → List (List ℕ) → ℕ → CappedReason → Option NoTransfer → List ℕ
lack_json clocks modes moment Unknown lack = codes "null"
lack_json clocks modes moment (Stale latest) lack = codes "null"
lack_json clocks modes moment (Transfer last mode) lack = codes "null"
lack_json clocks modes moment (PaidTransfer start until last mode charge) lack = codes "null"
lack_json clocks modes moment (Ride start until charge) None = codes "null"
lack_json clocks modes moment (Ride start until charge) (Some lack) =
    no_transfer_json clocks modes moment lack

-- what ends the line before one that has this number of lines before it
abbrev pub break_json : ℕ → List ℕ
break_json zero = codes "\n"
break_json (suc number) = codes ",\n"

-- where an entry's line starts, after this number of lines
unfoldable pub start_json : ClockView → ℕ → ℕ → List ℕ
start_json clocks number moment =
    break_json number ++ (codes "{\"moment\":" ++ at_json clocks moment)

-- `,"mode":"subway","validator":1000,"answer":"paid","cents":300`
unfoldable pub fields_json : Fares → Entry → List ℕ
fields_json fares entry =
    codes ",\"mode\":\"" ++ (mode_text fares entry.moment entry.validator
    ++ (codes "\",\"validator\":" ++ (decimal entry.validator ++ (codes ",\"answer\":\""
    ++ (answer_text entry.answer ++ (codes "\",\"cents\":" ++ decimal entry.cents))))))

-- what an entry's line has of the entry
abbrev pub what_json : Fares → ℕ → Entry → List ℕ
what_json fares number entry =
    start_json fares.zone number entry.moment ++ fields_json fares entry

-- and of its reason, and if it is a ride, of why it is no transfer
unfoldable pub why_json : ClockView → List (List ℕ) → List (List ℕ) → ℕ → CappedReason
    → Option NoTransfer → List ℕ
why_json clocks modes caps moment why lack =
    codes ",\"reason\":" ++ (reason_json clocks modes caps why ++ (codes ",\"no_transfer\":"
    ++ (lack_json clocks modes moment why lack ++ codes "}")))

-- the line of an entry of the token that follows the earlier ones
abbrev pub entry_json : Fares → Token → List Entry → Entry → List ℕ
entry_json fares token earlier entry =
    what_json fares (length earlier) entry
    ++ why_json fares.zone fares.meaning.modes fares.meaning.cap_names entry.moment
    (reason_after fares token earlier entry)
    (no_transfer_after fares token earlier entry)

-- the lines of all entries of the token that follow the earlier ones
abbrev pub entries_json : Fares → Token → List Entry → List Entry → List ℕ
entries_json fares token earlier [] = []
entries_json fares token earlier (entry ∷ entries) =
    entry_json fares token earlier entry
    ++ entries_json fares token (earlier ++ entry ∷ []) entries

-- a window's line, up to this end
unfoldable pub window_json : ClockView → List ℕ → WindowView → List ℕ
window_json clocks end window =
    codes "\n{" ++ (within_json clocks window.start window.until ++ (codes ",\"paid\":"
    ++ (decimal window.paid ++ (codes ",\"cents\":" ++ (decimal window.cents
    ++ (codes "}" ++ end))))))

-- the lines of these windows, of which the last follows the others, up to the end
abbrev pub windows_json : ClockView → List WindowView → Option WindowView → List ℕ
windows_json clocks earlier None =
    flat_map (window_json clocks (codes ",")) earlier ++ codes "]}\n"
windows_json clocks earlier (Some last) =
    flat_map (window_json clocks (codes ",")) earlier ++ window_json clocks (codes "]}\n") last

-- the token and its terms by the first table
unfoldable pub first_json : Token → Terms → List ℕ
first_json token terms =
    codes "{\"token\":\"" ++ (encode_lower (bytes_of token) ++ (codes "\",\n\"terms\":[\n{"
    ++ (terms_json terms ++ codes "}")))

-- its terms by the tables that follow, up to its entries
unfoldable pub rest_json : ClockView → List ℕ → List (ℕ × TableMeaning) → List ℕ
rest_json clocks token later = flat_map (later_json clocks token) later ++ codes "],\n\"entries\":["

-- both
abbrev pub head_json : Fares → Token → List ℕ
head_json fares token =
    first_json token (terms_at fares.meaning (bytes_of token))
    ++ rest_json fares.zone (bytes_of token) fares.later

-- `"totals":{"taps":2,"paid":1,"transfers":1,"capped":0`, after the entries
unfoldable pub first_sums_json : Sums → List ℕ
first_sums_json t =
    codes "],\n\"totals\":{\"taps\":" ++ (decimal t.taps ++ (codes ",\"paid\":" ++ (decimal t.paid
    ++ (codes ",\"transfers\":" ++ (decimal t.transfers ++ (codes ",\"capped\":"
    ++ decimal t.capped))))))

-- `,"stale":0,"unknown":0,"cents":300}`, before the windows
unfoldable pub last_sums_json : Sums → List ℕ
last_sums_json t =
    codes ",\"stale\":" ++ (decimal t.stale ++ (codes ",\"unknown\":" ++ (decimal t.unknown
    ++ (codes ",\"cents\":" ++ (decimal t.cents ++ codes "},\n\"windows\":[")))))

-- the explained statement of a token with these entries, as JSON
abbrev pub json_of : Fares → Token → List Entry → List ℕ
json_of fares token entries =
    head_json fares token ++ (entries_json fares token [] entries
    ++ (first_sums_json (sums entries) ++ (last_sums_json (sums entries) ++ windows_json fares.zone
    (earlier_windows (capped_rules_of fares (bytes_of token)) (map (tap_of fares) entries))
    (capped_window (capped_rules_of fares (bytes_of token)) (map (tap_of fares) entries)))))
