-- A LANE THAT ONLY NOTES, records and stores holds what it held: its blocks are the same, and it knows no less.
use Rattle.std.proofs.Common.{inl, ◌≡◌, ℕ, ◌+◌, ◌*◌, Bool, true, false, ◌==◌, ◌&&◌, List, [], ◌∷◌, sym, ◌∙◌, subst, Some}
use Rattle.std.specs.List.{list_any}
use Rattle.std.proofs.lemmas.Bool.{or_right}
use Rattle.pm_crash.specs.Roots.{saw_root}
use Rattle.pm_layout.specs.declared.shape.Shape.{Shape}
use Rattle.pm_view.specs.Changes.{Undrained}
use Rattle.pm_view.specs.Claims.{Claim, making, header_in, geometry}
use Rattle.pm_view.specs.Log.{Log}
use Rattle.pm_view.specs.Places.{Geometry, Place, InRun, InHuge, Descr, RootWord, Block, header}
use Rattle.pm_view.specs.View.{View}
use Rattle.pm_view.specs.Steps.{Step}
use Rattle.pm_world.specs.Sights.{Hold, hold_of, is_recorded}
use Rattle.pm_crash.specs.Footprints.{bit_before}
use Rattle.pm_crash.specs.Sim.{Grows, IsSamePlace, sees_at}
use Rattle.pm_plan.specs.Notes.{Note, Valued, DrainedTo, Looked, noted, AreNotes}
use Rattle.pm_plan.proofs.Notes as notes

module _ (sh : Shape) (ns : List Note) (t : List Claim) (are : AreNotes sh t ns) (none : (c : ℕ) → making sh t c ≡ false) where
  pub making_so : (c : ℕ) → making sh (noted ns t) c ≡ making sh t c
  making_so c = notes.making_same sh ns t are none c ∙ sym (none c)

  -- what it holds, and which blocks words are in
  pub hold_so : hold_of sh (noted ns t) ≡ hold_of sh t
  hold_so = λ i. record {
    locked = notes.locked_same ns t i;
    reads = notes.reads_same ns t i;
    found = λ B. notes.found_same sh ns t are B i;
    mine = λ B. notes.mine_same sh ns t are B i;
    here = λ B. notes.here_same sh ns t are B i;
    making = λ c. making_so c i;
    class = notes.class_same ns t i;
    span = notes.span_same sh ns t i;
    first = notes.first_same sh ns t i;
  }

  pub geometry_so : geometry sh (noted ns t) ≡ geometry sh t
  geometry_so = λ i. record { first = notes.first_same sh ns t i; class = notes.class_same ns t i }

  pub header_so : (B : Block) → header_in sh (noted ns t) B ≡ header_in sh t B
  header_so B = λ i. header sh (record { first = λ c. c; class = notes.class_same ns t i }) B

-- what it saw of the root word it saw still
pub saw_still : (sh : Shape) (ns : List Note) (t : List Claim) (line value : ℕ) → saw_root sh t line value ≡ true → saw_root sh (noted ns t) line value ≡ true
saw_still sh [] t line value e = e
saw_still sh (Valued w x ∷ ns) t line value e = or_right _ (saw_root sh (noted ns t) line value) (saw_still sh ns t line value e)
saw_still sh (DrainedTo left ∷ ns) t line value e = saw_still sh ns t line value e
saw_still sh (Looked c x ∷ ns) t line value e = saw_still sh ns t line value e

-- the view with notes, and with other changes and another log
abbrev pub noting : View → List Note → List Undrained → List Step → Log → View
noting v ns changes calls log = record v { claims = noted ns v.claims; changes = changes; calls = calls; log = log }

module _ (v : View) (ns : List Note) (changes : List Undrained) (calls : List Step) (log : Log) (are : AreNotes v.fixed.shape v.claims ns) (none : (c : ℕ) → making v.fixed.shape v.claims c ≡ false) where
  abbrev next : View
  next = noting v ns changes calls log

  pub sees_same : (p : Place) (b : ℕ) → sees_at next p b ≡ sees_at v p b
  sees_same p b = λ i. Rattle.pm_world.specs.Lanes.sees (geometry_so v.fixed.shape ns v.claims are none i) (λ q e. false) (hold_so v.fixed.shape ns v.claims are none i) p b

  pub same_place : (p : Place) → IsSamePlace v next p
  same_place (InRun c w) = λ i. notes.class_same ns v.claims i c
  same_place (InHuge c w) = λ i. notes.first_same v.fixed.shape ns v.claims i c
  same_place (Descr c) = tt
  same_place RootWord = tt

  own_so : (kept : Bool) (B : Block) → Rattle.pm_crash.specs.Sim.is_kept_block next kept B ≡ Rattle.pm_crash.specs.Sim.is_kept_block v kept B
  own_so kept B = λ i. notes.mine_same v.fixed.shape ns v.claims are B i
      && list_any (λ b. b.off == 64 * header_so v.fixed.shape ns v.claims are none B i + 64) (Rattle.pm_crash.specs.Sim.blocks_kept kept v)

  -- THE LANE KNOWS NO LESS, where its records stay and the bits before its call do
  pub noting_grows : (kept : Bool) → ((p : Place) → is_recorded v.log.records p ≡ true → is_recorded log.records p ≡ true)
      → ((p : Place) (b : ℕ) (y : Bool) → sees_at v p b ≡ true → bit_before v p b ≡ Some y → bit_before next p b ≡ Some y) → Grows v kept next kept
  noting_grows kept recorded knows = record {
    found = λ B e. notes.found_same v.fixed.shape ns v.claims are B ∙ e;
    spans = λ f _ i. notes.span_same v.fixed.shape ns v.claims i f;
    class = λ c i _ j. notes.class_same ns v.claims j c;
    own = λ B e. own_so kept B ∙ e;
    lines = λ B line _ has. subst (λ (h : Hold × Geometry). Rattle.pm_world.specs.BlockLines.OwnHas v.fixed.shape h.0 h.1 B line)
        (λ i. (sym (hold_so v.fixed.shape ns v.claims are none) i, sym (geometry_so v.fixed.shape ns v.claims are none) i)) has;
    sees = λ p b e. (sees_same p b ∙ e, same_place p);
    recorded = λ p b _ e. inl (recorded p e);
    knows = knows;
    roots = saw_still v.fixed.shape ns v.claims;
  }
