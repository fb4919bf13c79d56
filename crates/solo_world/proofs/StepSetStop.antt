-- That a lane says it is at its stop number keeps the world.
use Rattle.std.proofs.Common.{◌≡◌, inr, refl, sym, ◌∙◌, subst}
use Rattle.std.specs.Int.{bit_at}
use Rattle.solo_view.specs.Counts.{IsAtStop}
use Rattle.solo_view.specs.Steps.Step.{SetStop}
use Rattle.solo_world.specs.Fits.{ShowsHold}
use Rattle.solo_world.specs.History.{Flies, settled}
use Rattle.solo_world.specs.Laws.{Keeps}
use Rattle.solo_world.specs.Memory.Location.{PoolWord, LockWord, CommitCounter, StopWord}
use Rattle.solo_world.proofs.Frame.{lane_kept, view_here}
use Rattle.solo_world.proofs.Locations.{plain_stop, pool-stop, lock-stop, counter-stop}
use Rattle.solo_world.proofs.Heaps.{beside_same}
use Rattle.solo_world.proofs.Worlds.{heap_here, own, quiet, unlogged_before, hold_kept, room_kept}
use Rattle.solo_world.proofs.HeapWords.{words_described}

pub sets_stop : Keeps SetStop
sets_stop o old new views log decided k v world inside is lawful moves =
    let same = moves.0 in (
      quiet o old views log decided world k inside v is v new
          (λ j low other. lane_kept o old new (settled o log decided) (settled o log decided) (Flies log decided j) (Flies log decided j) j (views j) (words_described o old new (λ w. same (PoolWord w) (pool-stop w)))
          (λ w in_area. same (PoolWord w) (pool-stop w)) (λ w known. same (PoolWord w) (pool-stop w)) (λ w own_word. same (PoolWord w) (pool-stop w)) (λ line write. subst (ShowsHold j write) (sym (same (LockWord line) (lock-stop line)))) (λ w own_word. refl) (λ n flies. flies) (world.each_lane j low))
          (lane_kept o old new (settled o log decided) (settled o log decided) (Flies log decided k) (Flies log decided k) k v (words_described o old new (λ w. same (PoolWord w) (pool-stop w)))
          (λ w in_area. same (PoolWord w) (pool-stop w)) (λ w known. same (PoolWord w) (pool-stop w)) (λ w own_word. same (PoolWord w) (pool-stop w)) (λ line write. subst (ShowsHold k write) (sym (same (LockWord line) (lock-stop line)))) (λ w own_word. refl) (λ n flies. flies) (own o old views log decided world k inside v is))
          (λ w heap un others. same (PoolWord w) (pool-stop w) ∙ world.each_word w heap (unlogged_before o old views log decided world k inside v is v w un others))
          (λ line bit set. hold_kept o old views log decided world k inside v is v line bit (λ there. there) (world.each_line line bit (subst (λ n. bit_at n bit ≡ 1) (same (LockWord line) (lock-stop line)) set)))
          (λ n flying. flying) (same CommitCounter counter-stop) (room_kept o old views log decided world k inside v is v (λ can. can)) refl (heap_here o old views log decided world k inside v is v new (λ w. same (PoolWord w) (pool-stop w)) (beside_same old new StopWord plain_stop same) (record { lanes = refl; reserved = refl; freed = refl; zones = refl }))
          (inr (k, inside, subst IsAtStop (sym (view_here views k v)) lawful.allowed)),
      tt,
    )
