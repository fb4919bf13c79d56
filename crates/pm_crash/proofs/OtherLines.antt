-- What lines of scripts got of a zone: one that wins no bits got none, those of a lane got what the
-- lane got, and where one saw no room the others got the chunks.
use Rattle.std.proofs.Common.{◌≡◌, ◌≢◌, ⊎_elim, ℕ, zero, suc, ◌+◌, ◌-◌, ◌<◌, ◌≤◌, true, false}
use Rattle.std.proofs.Common.{cond, List, [], ◌∷◌, refl, sym, ap, ◌∙◌, subst, arith, ne_eqb}
use Rattle.std.proofs.Common.{eq-eqb}
use Rattle.std.proofs.lemmas.Bool.{cases_eq}
use Rattle.std.proofs.lemmas.List.Elements.{All-contains, All-head, All-tail}
use Rattle.pm_view.specs.declared.occ.Occ.TheVariants.{Run, Zone}
use Rattle.pm_view.specs.Changes.{Undrained, drained}
use Rattle.pm_view.specs.Claims.{Claim, Drained, Reserved, ones}
use Rattle.pm_view.specs.Entries.{Entry}
use Rattle.pm_view.specs.Log.{Log, Phase, Idle, Open, Drawn, Sealing, Applying, Clearing}
use Rattle.pm_view.specs.Log.{Retiring, Voiding}
use Rattle.pm_view.specs.Parts.{Part, GenerationPart, SealPart, EntryPart, SlotPart, RootPart}
use Rattle.pm_view.specs.Parts.{DescriptorPart, ChunkPart, OtherPart}
use Rattle.pm_view.specs.Steps.{Step}
use Rattle.pm_view.specs.Steps.Step.{Load, Store, Or, And, Flush, Drain, TakeWrite, TakeRead}
use Rattle.pm_view.specs.Steps.Step.{Raise, Give, ZoneTry, ZoneGive, Occupied, Occupy, Vacate}
use Rattle.pm_view.specs.Steps.Step.{Draw, NumberSeen, StopSeen, SetStop, Tell}
use Rattle.pm_view.specs.View.{View, Seen}
use Rattle.pm_view.specs.Views.{after, claims_drained, decided_by, learned, marked_by, part_in}
use Rattle.pm_view.specs.Views.{seen_by}
use Rattle.pm_view.specs.Views as views_of
use Rattle.pm_world.specs.Causes.{Causes, SeenFilled, all_got, chunks_got}
use Rattle.pm_world.specs.Runs.{IsRun, LaneStep, Leads, Moment}
use Rattle.pm_world.specs.States.{put1}
use Rattle.pm_world.specs.World.{Opening, Views}
use Rattle.pm_world.proofs.CausesKept as kept
use Rattle.pm_world.proofs.ClaimCounts.{grows, rising_got}
use Rattle.pm_world.proofs.RunsKept.{runs_keep}
use Rattle.pm_crash.specs.Answers.{AreCuts, GetsNone, LinesGetNone, LinesHaveCauses}
use Rattle.pm_crash.specs.Answers.{OthersAreLines, OthersGetTheRest, got_by_all_lines, got_by_lines}
use Rattle.pm_crash.proofs.FullZones.{full_is_got}

-- ---- A STEP THAT GETS NO CHUNK of the zone
module _ (zone : ℕ) where
  saw : (part : Part) (x : ℕ) (t : List Claim)
      → chunks_got zone (seen_by part x t) ≡ chunks_got zone t
  saw GenerationPart x t = refl
  saw SealPart x t = refl
  saw EntryPart x t = refl
  saw SlotPart x t = refl
  saw RootPart x t = refl
  saw (DescriptorPart c) x t = refl
  saw (ChunkPart c zero) x t = refl
  saw (ChunkPart c (suc i)) x t = refl
  saw OtherPart x t = refl

  learns : (ph : Phase) (part : Part) (w x : ℕ) (t : List Claim)
      → chunks_got zone (learned ph part w x t) ≡ chunks_got zone t
  learns Idle part w x t = saw part x t
  learns Open part w x t = saw part x t
  learns (Drawn n) part w x t = refl
  learns (Sealing n) part w x t = refl
  learns (Applying todo) part w x t = refl
  learns Clearing part w x t = refl
  learns (Retiring n) part w x t = refl
  learns Voiding part w x t = refl

  marks_idle : (part : Part) (x : ℕ) (t : List Claim)
      → chunks_got zone (marked_by Idle part x t) ≡ chunks_got zone t
  marks_idle GenerationPart x t = refl
  marks_idle SealPart x t = refl
  marks_idle EntryPart x t = refl
  marks_idle SlotPart x t = refl
  marks_idle RootPart x t = refl
  marks_idle (DescriptorPart c) x t = refl
  marks_idle (ChunkPart c i) x t = refl
  marks_idle OtherPart x t = refl

  marks_open : (part : Part) (x : ℕ) (t : List Claim)
      → chunks_got zone (marked_by Open part x t) ≡ chunks_got zone t
  marks_open GenerationPart x t = refl
  marks_open SealPart x t = refl
  marks_open EntryPart x t = refl
  marks_open SlotPart x t = refl
  marks_open RootPart x t = refl
  marks_open (DescriptorPart c) x t = refl
  marks_open (ChunkPart c i) x t = refl
  marks_open OtherPart x t = refl

  marks : (ph : Phase) (part : Part) (x : ℕ) (t : List Claim)
      → chunks_got zone (marked_by ph part x t) ≡ chunks_got zone t
  marks Idle part x t = marks_idle part x t
  marks Open part x t = marks_open part x t
  marks (Drawn n) part x t = refl
  marks (Sealing n) part x t = refl
  marks (Applying todo) part x t = refl
  marks Clearing part x t = refl
  marks (Retiring n) part x t = refl
  marks Voiding part x t = refl

  decides : (ph : Phase) (es : List Entry) (t : List Claim)
      → chunks_got zone (decided_by ph es t) ≡ chunks_got zone t
  decides Idle es t = refl
  decides Open es t = refl
  decides (Drawn n) es t = refl
  decides (Sealing n) es t = refl
  decides (Applying todo) es t = refl
  decides Clearing es t = refl
  decides (Retiring n) es t = refl
  decides Voiding es t = refl

  drains : (left : List Undrained) (log : Log) (t : List Claim)
      → chunks_got zone (claims_drained left log (Drained left ∷ t)) ≡ chunks_got zone t
  drains [] log t = decides log.phase log.entries (Drained [] ∷ t)
  drains (u ∷ left) log t = refl

  begins : (ph : Phase) (v : View)
      → chunks_got zone (views_of.begun ph v).claims ≡ chunks_got zone v.claims
  begins Idle v = refl
  begins Open v = refl
  begins (Drawn n) v = refl
  begins (Sealing n) v = refl
  begins (Applying todo) v = refl
  begins Clearing v = refl
  begins (Retiring n) v = refl
  begins Voiding v = refl

  other_zone : (z bits : ℕ) (t : List Claim) → z ≢ zone
      → chunks_got zone (Reserved (Zone z) bits ∷ t) ≡ chunks_got zone t
  other_zone z bits t ne =
      ap (λ b. cond b (ones 64 bits) 0 + chunks_got zone t) (ne_eqb z zone ne) ∙ omega arith

  of_run : (place bits : ℕ) (t : List Claim)
      → chunks_got zone (Reserved (Run place) bits ∷ t) ≡ chunks_got zone t
  of_run place bits t = let e : 0 + chunks_got zone t ≡ chunks_got zone t = omega arith in e

  gets_none : (v : View) (s : Step) → ((bits : ℕ) → s ≢ Occupy (Zone zone) bits true)
      → chunks_got zone (after v s).claims ≡ chunks_got zone v.claims
  gets_none v (Load w x) n = learns v.log.phase (part_in v w) w x v.claims
  gets_none v (Store w x) n = marks v.log.phase (part_in v w) x v.claims
  gets_none v (Or w bits found) n = refl
  gets_none v (And w bits found) n = refl
  gets_none v (Flush line) n = refl
  gets_none v Drain n = drains (drained v.changes) v.log v.claims
  gets_none v (TakeWrite line true) n = refl
  gets_none v (TakeWrite line false) n = refl
  gets_none v (TakeRead line true) n = refl
  gets_none v (TakeRead line false) n = refl
  gets_none v (Raise line true) n = refl
  gets_none v (Raise line false) n = refl
  gets_none v (Give line) n = refl
  gets_none v (ZoneTry z won) n = refl
  gets_none v (ZoneGive z) n = refl
  gets_none v (Occupied at found) n = refl
  gets_none v (Occupy (Run place) bits true) n = of_run place bits v.claims
  gets_none v (Occupy (Zone z) bits true) n =
      other_zone z bits v.claims (λ q. n bits (ap (λ y. Occupy (Zone y) bits true) q))
  gets_none v (Occupy at bits false) n = refl
  gets_none v (Vacate at bits) n = refl
  gets_none v (Draw m) n = refl
  gets_none v (NumberSeen m) n = begins v.log.phase v
  gets_none v (StopSeen set) n = refl
  gets_none v SetStop n = refl
  gets_none v (Tell operation reply) n = refl

  -- ---- A LANE IN A RUN
  abbrev got : ℕ → Moment → ℕ
  got k m = chunks_got zone (m.views k).claims

  module _ (o : Opening) (k : ℕ) where
    more_now : (t : LaneStep) (old new : Moment) → Leads o old t new → got k old ≤ got k new
    more_now t old new l = ⊎_elim
        (λ (q : t.lane ≡ k). subst (λ i. got i old ≤ got i new) q
        (subst (λ (v : View). got t.lane old ≤ chunks_got zone v.claims) (sym l.view.here)
        (grows (chunks_got zone) (rising_got zone) (old.views t.lane) t.step)))
        (λ (ne : t.lane ≢ k). subst (λ (v : View). got k old ≤ chunks_got zone v.claims)
        (sym (l.view.else_ k (λ q. ne (sym q)))) (omega arith))
        (cases_eq t.lane k)

    pub more : (turns : List LaneStep) (begun now : Moment) → IsRun o begun turns now
        → got k begun ≤ got k now
    unfolding IsRun
    more [] begun now run = subst (λ (m : Moment). got k begun ≤ got k m) (sym run) (omega arith)
    more (t ∷ rest) begun now run =
        let a = more_now t begun run.0 run.1 in let b = more rest run.0 now run.2 in omega arith

    abbrev WinsNone : LaneStep → Type 0
    WinsNone t = t.lane ≡ k → (bits : ℕ) → t.step ≢ Occupy (Zone zone) bits true

    same_now : (t : LaneStep) (old new : Moment) → Leads o old t new
        → WinsNone t → got k new ≡ got k old
    same_now t old new l none = ⊎_elim
        (λ (q : t.lane ≡ k). subst (λ i. got i new ≡ got i old) q
        (ap (λ (v : View). chunks_got zone v.claims) l.view.here
        ∙ gets_none (old.views t.lane) t.step (none q)))
        (λ (ne : t.lane ≢ k).
        ap (λ (v : View). chunks_got zone v.claims) (l.view.else_ k (λ q. ne (sym q))))
        (cases_eq t.lane k)

    pub same : (turns : List LaneStep) (begun now : Moment) → IsRun o begun turns now
        → GetsNone zone k turns → got k now ≡ got k begun
    unfolding IsRun
    same [] begun now run none = ap (λ (m : Moment). got k m) run
    same (t ∷ rest) begun now run none =
        same rest run.0 now run.2 (All-tail WinsNone t rest none)
        ∙ same_now t begun run.0 run.1 (All-head WinsNone t rest none)

    cut : (cuts : List Moment) (old new : Moment) → AreCuts o old cuts new
        → (got k old ≤ got k new) × (got k old + got_by_lines zone k old cuts ≡ got k new)
    unfolding AreCuts
    cut [] old new c = let e = ap (λ (m : Moment). got k m) c in (omega arith, omega arith)
    cut (next ∷ rest) old new c =
        let a = more c.0 old next c.1 in let r = cut rest next new c.2 in
        let b = r.0 in let e = r.1 in
        (omega arith, omega arith)

  -- ---- ALL LANES, with what one of them got at an earlier moment
  module _ (views : Views) (k : ℕ) (v : View) where
    but_one : (n : ℕ) → n ≤ k → all_got zone (put1 views k v) n ≡ all_got zone views n
    but_one zero l = refl
    but_one (suc n) l =
        let r = but_one n (omega arith) in
        let e : chunks_got zone (put1 views k v n).claims ≡ chunks_got zone (views n).claims =
        ap (λ b. chunks_got zone (cond b v (views n)).claims) (ne_eqb n k (λ q. omega arith)) in
        omega arith

    with_one : chunks_got zone v.claims ≤ chunks_got zone (views k).claims → (n : ℕ) → k < n
        → all_got zone (put1 views k v) n
        + (chunks_got zone (views k).claims - chunks_got zone v.claims)
        ≡ all_got zone views n
    with_one less zero l = absurd (omega arith)
    with_one less (suc n) l = ⊎_elim
        (λ (q : n ≡ k). let r = but_one n (omega arith) in
        let e : chunks_got zone (put1 views k v n).claims ≡ chunks_got zone v.claims =
        ap (λ b. chunks_got zone (cond b v (views n)).claims) (eq-eqb n k q) in
        let h : chunks_got zone (views n).claims ≡ chunks_got zone (views k).claims =
        ap (λ i. chunks_got zone (views i).claims) q in omega arith)
        (λ (ne : n ≢ k). let r = with_one less n (omega arith) in
        let e : chunks_got zone (put1 views k v n).claims ≡ chunks_got zone (views n).claims =
        ap (λ b. chunks_got zone (cond b v (views n)).claims) (ne_eqb n k ne) in omega arith)
        (cases_eq n k)

-- ---- THE LAWS

pub none_got : LinesGetNone
none_got o turns begun now run zone k none =
    let e = same zone o k turns begun now run none in omega arith

pub sums : OthersAreLines
sums o fixed generation old begun now cuts zone k idle mine others = to o.lanes
  where
    none : (j : ℕ) → got zone j old ≡ 0
    none j = ap (λ (vs : Views). chunks_got zone (vs j).claims) idle

    one : (j : ℕ) (m : Moment) → AreCuts o old (cuts j) m
        → got zone j m ≡ got_by_lines zone j old (cuts j)
    one j m c =
        let r = cut zone o j (cuts j) old m c in let e = r.1 in let z = none j in omega arith

    each : (j : ℕ) → chunks_got zone (put1 now.views k (begun.views k) j).claims
        ≡ got_by_lines zone j old (cuts j)
    each j = ⊎_elim
        (λ (q : j ≡ k).
        ap (λ b. chunks_got zone (cond b (begun.views k) (now.views j)).claims) (eq-eqb j k q)
        ∙ subst (λ i. got zone k begun ≡ got_by_lines zone i old (cuts i)) (sym q)
        (one k begun mine))
        (λ (ne : j ≢ k).
        ap (λ b. chunks_got zone (cond b (begun.views k) (now.views j)).claims) (ne_eqb j k ne)
        ∙ one j now (others j ne))
        (cases_eq j k)

    to : (n : ℕ) → all_got zone (put1 now.views k (begun.views k)) n
        ≡ got_by_all_lines zone old cuts n
    to zero = refl
    to (suc n) = let r = to n in let e = each n in omega arith

pub the_rest : OthersGetTheRest
the_rest o turns begun now run zone k ink =
    with_one zone now.views k (begun.views k) (more zone o k turns begun now run) o.lanes ink

pub causes : LinesHaveCauses
causes o fixed generation turns line old begun now w taken none idle first run
    zone k x n starts inz ink quiet saw full free =
    let c = kept.runs o turns old begun w
    (subst (λ (vs : Views). Causes o old.mem vs old.past) (sym idle)
    (kept.begin o old.mem fixed generation old.past taken none)) first in
    let d = kept.runs o line begun now (runs_keep o turns old begun w first) c run in
    let s : Seen = record { at = Zone zone; bits = x } in
    let filled = All-contains (SeenFilled o now.views) (now.views k).occupancy s
    (d.no_space.seen k ink) saw zone inz refl in
    let all = full_is_got o now.views zone x n starts filled full free in
    let rest = the_rest o line begun now run zone k ink in
    let mine = none_got o line begun now run zone k quiet in
    omega arith
