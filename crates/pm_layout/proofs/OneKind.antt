-- One word has one kind, whatever the numbers of lanes and zones.
use Rattle.std.proofs.Common.{◌≡◌, ℕ, refl, ap, arith}
use Rattle.pm_layout.specs.declared.kind.PlaceKind.{PlaceKind}
use Rattle.pm_layout.specs.declared.kind.PlaceKind.TheVariants.{Root, Lane, Descriptor, Chunk, Other}
use Rattle.pm_layout.specs.Kinds.{IsKind}

same_pair : (f : ℕ → ℕ → PlaceKind) (a b c d : ℕ) → a ≡ c → b ≡ d → f a b ≡ f c d
same_pair f a b c d e h = cc

pub one_kind : (lanes zones word : ℕ) (one other : PlaceKind) → IsKind lanes zones word one → IsKind lanes zones word other → one ≡ other
one_kind lanes zones word Root Root p q = refl
one_kind lanes zones word Root (Lane k) p q = absurd (omega arith)
one_kind lanes zones word Root (Descriptor z c) p q = absurd (omega arith)
one_kind lanes zones word Root (Chunk z c) p q = absurd (omega arith)
one_kind lanes zones word Root Other p q = absurd (q.no_root p)
one_kind lanes zones word (Lane k) Root p q = absurd (omega arith)
one_kind lanes zones word (Lane k) (Lane k') p q = ap Lane (omega arith)
one_kind lanes zones word (Lane k) (Descriptor z c) p q = absurd (omega arith)
one_kind lanes zones word (Lane k) (Chunk z c) p q = absurd (omega arith)
one_kind lanes zones word (Lane k) Other p q = absurd (q.no_lane k p)
one_kind lanes zones word (Descriptor z c) Root p q = absurd (omega arith)
one_kind lanes zones word (Descriptor z c) (Lane k) p q = absurd (omega arith)
one_kind lanes zones word (Descriptor z c) (Descriptor z' c') p q =
    let zone : z ≡ z' = omega arith in
    same_pair Descriptor z c z' c' zone (omega arith)
one_kind lanes zones word (Descriptor z c) (Chunk z' c') p q = absurd (omega arith)
one_kind lanes zones word (Descriptor z c) Other p q = absurd (q.no_descriptor z c p)
one_kind lanes zones word (Chunk z c) Root p q = absurd (omega arith)
one_kind lanes zones word (Chunk z c) (Lane k) p q = absurd (omega arith)
one_kind lanes zones word (Chunk z c) (Descriptor z' c') p q = absurd (omega arith)
one_kind lanes zones word (Chunk z c) (Chunk z' c') p q =
    let zone : z ≡ z' = omega arith in
    same_pair Chunk z c z' c' zone (omega arith)
one_kind lanes zones word (Chunk z c) Other p q = absurd (q.no_chunk z c p)
one_kind lanes zones word Other Root p q = absurd (p.no_root q)
one_kind lanes zones word Other (Lane k) p q = absurd (p.no_lane k q)
one_kind lanes zones word Other (Descriptor z c) p q = absurd (p.no_descriptor z c q)
one_kind lanes zones word Other (Chunk z c) p q = absurd (p.no_chunk z c q)
one_kind lanes zones word Other Other p q = refl
