use Rattle.std.proofs.Common.{◌<◌, All, List, map, take}
use Rattle.tap_views.specs.{Files.AreValidTapsOfEach, Layout.Tap}
use Rattle.histories.proofs.laws.plain.plain_history.Given as goal

abbrev pub invariant-loop-upload : goal.invariant-loop-upload
invariant-loop-upload l = record {
  taps : (taps : List (List Tap))
      × AreValidTapsOfEach (map (λ upload. upload.items) (take l.upload-index l.uploads)) taps;
  bytes : All (λ upload. All (λ byte. byte < 256) upload.items) (take l.upload-index l.uploads);
}
