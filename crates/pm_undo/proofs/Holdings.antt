-- What a lane holds stays where it notes nothing else.
use Rattle.std.proofs.Common.{◌≡◌, ◌≢◌, ℕ, ◌+◌, ◌*◌, ◌%◌, ◌<◌, ◌≤◌, ◌&&◌, List, [], ◌∷◌, refl, sym, ap, ◌∙◌, subst, Some}
use Rattle.pm_layout.specs.declared.shape.Shape.{Shape}
use Rattle.pm_layout.specs.Sizes.{blocks_of}
use Rattle.pm_view.specs.Claims.{Claim, class, first, found, header_in, locked, mine, reads, span}
use Rattle.pm_view.specs.Founds.{knows}
use Rattle.pm_view.specs.Places.{Block, Small, Big, Root, in_span}
use Rattle.pm_view.specs.View.{View, Constants}
use Rattle.pm_world.specs.InWorld.{IsSound}
use Rattle.pm_world.specs.LaneFields.{fields_at, moved, listed, last_number}
use Rattle.pm_world.specs.InWorld.{block_bytes}
use Rattle.pm_undo.specs.Ranges.{HoldingsStay, StaysBetween, HoldsObject, header_of}
use Rattle.pm_undo.specs.Records.{with_log}
use Rattle.pm_plan.specs.Notes.{Note, Valued, DrainedTo, Looked, claim_of, noted}
use Rattle.pm_plan.proofs.Notes.{class_same, first_same, found_same, mine_same}

locked_one : (n : Note) (t : List Claim) → locked (claim_of n ∷ t) ≡ locked t
locked_one (Valued w x) t = refl
locked_one (DrainedTo left) t = refl
locked_one (Looked c x) t = refl

reads_one : (n : Note) (t : List Claim) → reads (claim_of n ∷ t) ≡ reads t
reads_one (Valued w x) t = refl
reads_one (DrainedTo left) t = refl
reads_one (Looked c x) t = refl

span_one : (sh : Shape) (n : Note) (t : List Claim) → span sh (claim_of n ∷ t) ≡ span sh t
span_one sh (Valued w x) t = refl
span_one sh (DrainedTo left) t = refl
span_one sh (Looked c x) t = refl

locked_same : (notes : List Note) (t : List Claim) → locked (noted notes t) ≡ locked t
locked_same [] t = refl
locked_same (n ∷ notes) t = locked_one n (noted notes t) ∙ locked_same notes t

reads_same : (notes : List Note) (t : List Claim) → reads (noted notes t) ≡ reads t
reads_same [] t = refl
reads_same (n ∷ notes) t = reads_one n (noted notes t) ∙ reads_same notes t

span_same : (sh : Shape) (notes : List Note) (t : List Claim) → span sh (noted notes t) ≡ span sh t
span_same sh [] t = refl
span_same sh (n ∷ notes) t = span_one sh n (noted notes t) ∙ span_same sh notes t

pub holdings : HoldingsStay
holdings v w fixed is = record {
  locked = λ l. ap (λ (f : ℕ → Rattle.std.proofs.Common.Bool). f l) locks;
  reads = λ l. ap (λ t. reads t l) is.are ∙ ap (λ (f : ℕ → Rattle.std.proofs.Common.Bool). f l)
      (reads_same is.notes v.claims);
  found = found_;
  mine = λ B. ap (λ t. mine sh t B) is.are ∙ mine_same sh is.notes v.claims is.each B;
  class = classes;
  first = firsts;
  span = spans;
  sound = λ s. subst (λ (g : Constants). IsSound (record w { fixed = g })) (sym fixed) (record {
    small = λ c i e. subst (λ cl. (cl ≢ 0) × (i < blocks_of cl))
        (sym (ap (λ (f : ℕ → ℕ). f c) classes)) (s.small c i (sym (found_ (Small c i)) ∙ e));
    some = λ f e. subst (λ n. 1 ≤ n) (sym (ap (λ (g : ℕ → ℕ). g f) spans)) (s.some f (sym (found_ (Big f)) ∙ e));
    zone = λ f e. subst (λ n. f % 64 + n ≤ 64) (sym (ap (λ (g : ℕ → ℕ). g f) spans))
        (s.zone f (sym (found_ (Big f)) ∙ e));
    huge = λ f c e within. let t = s.huge f c (sym (found_ (Big f)) ∙ e)
        (sym (ap (λ (g : ℕ → ℕ). in_span f (g f) c) spans) ∙ within) in
        (ap (λ (g : ℕ → ℕ). g c) firsts ∙ t.0, ap (λ (g : ℕ → ℕ). g c) classes ∙ t.1);
  });
  object = λ B size same o. subst (λ (g : Constants). HoldsObject (record w { fixed = g }) B size)
      (sym fixed) (record {
        inside = o.inside;
        here_ = ap (λ f. f && locked w.claims (header_in sh w.claims B)) (found_ B)
            ∙ (ap (λ h. found sh v.claims B && locked w.claims h) (header_same B)
            ∙ (ap (λ (f : ℕ → Rattle.std.proofs.Common.Bool). found sh v.claims B && f
            (header_in sh v.claims B)) locks ∙ o.here_));
        sized = sized B size same o;
        fits = subst (λ n. 64 + size ≤ n) (sym (bytes_same B)) o.fits;
      });
}
  where
    sh : Shape
    sh = v.fixed.shape

    locks : locked w.claims ≡ locked v.claims
    locks = ap locked is.are ∙ locked_same is.notes v.claims

    found_ : (B : Block) → found v.fixed.shape w.claims B ≡ found v.fixed.shape v.claims B
    found_ B = ap (λ t. found v.fixed.shape t B) is.are ∙ found_same v.fixed.shape is.notes
        v.claims is.each B

    classes : class w.claims ≡ class v.claims
    classes = ap class is.are ∙ class_same is.notes v.claims

    firsts : first v.fixed.shape w.claims ≡ first v.fixed.shape v.claims
    firsts = ap (first v.fixed.shape) is.are ∙ first_same v.fixed.shape is.notes v.claims

    spans : span v.fixed.shape w.claims ≡ span v.fixed.shape v.claims
    spans = ap (span v.fixed.shape) is.are ∙ span_same v.fixed.shape is.notes v.claims

    header_same : (B : Block) → header_in v.fixed.shape w.claims B ≡ header_in v.fixed.shape
        v.claims B
    header_same B = ap (λ cl. Rattle.pm_view.specs.Places.header v.fixed.shape
        (record { first = λ c. c; class = cl }) B) classes

    bytes_same : (B : Block) → block_bytes (record w { fixed = v.fixed }) B ≡ block_bytes v B
    bytes_same (Small c i) = ap (λ (f : ℕ → ℕ). 64 * f c) classes
    bytes_same (Big f) = ap (λ (g : ℕ → ℕ). 4096 * g f) spans
    bytes_same Root = refl

    sized : (B : Block) (size : ℕ) → knows w (8 * header_of v B + 1) ≡ knows v
        (8 * header_of v B + 1) → HoldsObject v B size → knows (record w { fixed = v.fixed })
        (8 * header_of (record w { fixed = v.fixed }) B + 1) ≡ Some size
    sized B size same o = ap (λ h. knows (record w { fixed = v.fixed }) (8 * h + 1))
        (header_same B)
        ∙ (ap (λ (g : Constants). knows (record w { fixed = g }) (8 * header_of v B + 1))
        (sym fixed) ∙ (same ∙ o.sized))

pub stays_between : {M : Type 0} (at : M → View → Type 0) → StaysBetween at
stays_between at stage s old new w claims changes calls log is k = (
  record { memory = k.memory; fields = k.fields ∙ sym (ap (with_log s.view) k.fields) },
  λ l. record { memory = l.memory; fields = l.fields ∙ (ap (with_log w) k.fields ∙ moves) },
)
  where
    moves : with_log w (fields_at stage s) ≡ fields_at stage (moved s w)
    moves = ap (λ (y : View). record (with_log w (fields_at stage s)) {
      pool = y.fixed.pool;
      pending = listed y.actions;
      last = last_number y.entries;
    }) (sym is)
