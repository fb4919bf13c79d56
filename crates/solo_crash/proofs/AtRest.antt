-- A lane at rest writes no slot and has no call in flight: a power failure then tears no record, and loses no call.
use Rattle.std.proofs.Common.{◌≡◌, ⊎_elim, inl, ℕ, ◌<◌, ◌≤◌, false, not, ◌&&◌, List, [], ◌∷◌, length, sym, ap, ◌∙◌, subst, arith}
use Rattle.std.proofs.lemmas.Bool.{and_parts, false_from_ne_true, false≢true}
use Rattle.pm_header.specs.declared.header.Header.{Header}
use Rattle.pm_objects.specs.declared.pool.PoolView.{PoolView}
use Rattle.solo_view.specs.Log.{Log, no_log}
use Rattle.solo_view.specs.Log.Phase.{Idle, Open}
use Rattle.solo_view.specs.Steps.{Step}
use Rattle.solo_view.specs.View.{Numbered, View}
use Rattle.solo_memory.specs.Keep.{IsKeptImage}
use Rattle.solo_world.specs.Course.{is_number}
use Rattle.solo_world.specs.Crash.{IsBeingWritten, NoneTorn, is_deciding_in, loses}
use Rattle.solo_world.specs.Opening.{Opening}
use Rattle.solo_world.specs.Records.{is_drained_slot, used_slots}
use Rattle.solo_crash.specs.Alone.{MeansCalls, Rests, WorksAlone, alone_views, kept_numbered}
use Rattle.solo_crash.proofs.AloneImages.{calls_meant, ended_stays}
use Rattle.solo_crash.proofs.Begun.{all_pass}
use Rattle.solo_crash.proofs.TornSlots.{none_torn_by_lane}

-- an empty log uses no slot beyond its records
rest_uses : (b : View) → Rests b → used_slots b.log.phase b ≡ length b.log.records
rest_uses b rests = ⊎_elim
    (λ (idle : b.log ≡ no_log Idle). ap (λ (l : Log). used_slots l.phase b) idle)
    (λ (fresh : b.log ≡ no_log (Open [] [])). ap (λ (l : Log). used_slots l.phase b) fresh)
    rests.empty

rest_writes_none : (b : View) (slot : ℕ) → Rests b → slot < 64 → IsBeingWritten b slot → ⊥
rest_writes_none b slot rests within being = ⊎_elim
    (λ (undrained : is_drained_slot b slot ≡ false). false≢true (sym undrained ∙ rests.drained slot within))
    (λ (used : (length b.log.records ≤ slot) × (slot < used_slots b.log.phase b)). let all = rest_uses b rests in let from = used.0 in let to = used.1 in omega (arith, all, from, to))
    being

pub none_torn_at_rest : (o : Opening) (b : View) (image : List ℕ) → Rests b → NoneTorn o (alone_views o b) image
none_torn_at_rest o b image rests = none_torn_by_lane o b image (λ slot u within being valid. absurd (rest_writes_none b slot rests within being))

rest_loses_none : (image : List ℕ) (b : View) (n : ℕ) → Rests b → loses image b n ≡ false
rest_loses_none image b n rests = ⊎_elim
    (λ (idle : b.log ≡ no_log Idle). ended_stays b image n (inl (ap (λ (l : Log). l.phase) idle)))
    (λ (fresh : b.log ≡ no_log (Open [] [])). ap (λ (l : Log). is_number b.number n && not (is_deciding_in image b l.phase)) fresh
    ∙ false_from_ne_true (is_number b.number n && false) (λ lost. false≢true (and_parts (is_number b.number n) false lost).1))
    rests.empty

pub calls_meant_at_rest : (o : Opening) (header : Header) (pool : PoolView) (v b : View) (steps : List Step) (keep : ℕ) (image : List ℕ) → WorksAlone o header pool v steps b
    → IsKeptImage keep b.words (b.changes ∷ []) image → Rests b → MeansCalls image o.lanes o.zones pool b.entries
calls_meant_at_rest o header pool v b steps keep image works is rests =
    let all : kept_numbered image b ≡ b.entries = all_pass (λ (e : Numbered). not (loses image b e.number)) b.entries (λ e there. ap not (rest_loses_none image b e.number rests)) in
    subst (MeansCalls image o.lanes o.zones pool) all (calls_meant o header pool v b steps works keep image is (none_torn_at_rest o b image rests))
