-- What a lane has reserved it has still, where the words of it stay, and what else its call has lies apart from that.
use Rattle.std.proofs.Common.{◌≡◌, ⊎_elim, inl, inr, ℕ, ◌+◌, ◌*◌, ◌<◌, ◌≤◌, false, List, [], length, map, slice_index, Option, Some, sym, ◌∙◌, ap, subst, arith}
use Rattle.std.specs.Prelude.{nat_eq}
use Rattle.std.specs.List.{Contains, IsDistinct}
use Rattle.pm_image.proofs.Members.{no_member}
use Rattle.pm_image.specs.Reads.{ReadsBlock}
use Rattle.pm_image.specs.declared.block.Block.{Block}
use Rattle.pm_layout.specs.Sizes.{class_of}
use Rattle.solo_model.specs.Actions.{Pending, Reservation}
use Rattle.solo_model.specs.Places.{CanHold}
use Rattle.solo_view.specs.View.{Lock, View}
use Rattle.pm_objects.specs.declared.calls.Operation.{Operation}
use Rattle.pm_objects.specs.declared.history.Value.{Value}
use Rattle.solo_model.specs.Bytes.{is_among}
use Rattle.solo_crash.specs.CallBlocks.{CallBlocks, IsMadeIn, NewObject, block_of, blocks_behind, blocks_in, is_freed_in, reserved_object}
use Rattle.solo_crash.specs.HeapChanges.{AreDisjoint}
use Rattle.solo_crash.specs.OpenCall.{IsUnderBlock, block_at_line}
use Rattle.solo_crash.specs.Operations.{KeepsKnown, KeepsLane, Tells}
use Rattle.solo_crash.specs.Pending.{pending_behind, pending_in}
use Rattle.solo_crash.specs.Reserving.{HasReserved, StandsReserved, block_reserved}
use Rattle.solo_crash.proofs.CallBlocks.{SameNew, blocks_once_more, fills_block, made_where_known, same_bytes}
use Rattle.solo_crash.proofs.Continued.{two_same}
use Rattle.solo_crash.proofs.NewStay.{news_in}
use Rattle.solo_crash.proofs.PendingOn.{pending_once_more}

-- ---- one of them

pub stands_so : (v next : View) (r : Reservation) → next.lanes ≡ v.lanes → next.zones ≡ v.zones → next.lane ≡ v.lane → ((i : ℕ) → ReadsBlock (slice_index v.words) (block_reserved r) i → Contains next.known i) → SameNew v next (reserved_object r)
    → StandsReserved v r → StandsReserved next r
stands_so v next r lanes_same zones_same lane known same stands = record {
  place = two_same (λ (lanes zones : ℕ). CanHold lanes zones (class_of (length r.bytes)) r.off) v.lanes next.lanes v.zones next.zones (sym lanes_same) (sym zones_same) stands.place;
  made = made_where_known v next (reserved_object r) lane known same stands.made;
  bytes = same_bytes v next (reserved_object r) same ∙ stands.bytes;
}

pub stands_still : (v next : View) (r : Reservation) → KeepsLane v next → SameNew v next (reserved_object r) → StandsReserved v r → StandsReserved next r
stands_still v next r lane same stands = stands_so v next r lane.lanes lane.zones lane.lane (λ i reads. lane.known i (stands.made.known i reads)) same stands

-- its words stay where none that the lane knew changed
pub known_same : (v next : View) (r : Reservation) → KeepsKnown v next → StandsReserved v r → SameNew v next (reserved_object r)
known_same v next r keeps stands i reads = keeps.known i (stands.made.outside i reads) (stands.made.known i reads)

-- a word of it is one of its block, and of none that lies apart from that
pub lies_within : (v : View) (n : NewObject) (i : ℕ) → IsMadeIn v n → ReadsBlock (slice_index v.words) (block_of n) i → ((block_of n).place ≤ 8 * i) × (8 * i < (block_of n).place + 64 * (block_of n).lines)
lies_within v n i is reads =
    let from = reads.from in let to = reads.to in let fills = fills_block v n is in let behind = is.behind in let aligned = is.aligned in
    (omega (arith, from, behind, aligned), omega (arith, to, fills, behind, aligned))

pub not_under : (v : View) (r : Reservation) (i : ℕ) → HasReserved v → Contains (pending_in v).reserved r → ReadsBlock (slice_index v.words) (block_reserved r) i → ¬ IsUnderBlock v i
not_under v r i has there reads under =
    let within = lies_within v (reserved_object r) i (has.each r there).made reads in
    let low = within.0 in let high = within.1 in let from = under.from in let to = under.to in
    ⊎_elim
    (λ (before : (block_reserved r).place + 64 * (block_reserved r).lines ≤ 64 * under.lock.line). omega (arith, before, from, high))
    (λ (behind : 64 * under.lock.line + 64 * under.lines ≤ (block_reserved r).place). omega (arith, behind, to, low))
    (has.apart_found r under.lock under.lines there under.held under.found)

-- ---- all of them

-- the same is reserved, its words stay, and what the call has then lies apart from it
pub record ReservedOn (v next : View) : Type 0 where
  pub lane : KeepsLane v next
  pub reserved : (pending_in next).reserved ≡ (pending_in v).reserved
  pub words : (r : Reservation) → Contains (pending_in v).reserved r → SameNew v next (reserved_object r)
  pub made : (r : Reservation) (m : NewObject) → Contains (pending_in v).reserved r → Contains (news_in (blocks_in next)) m → AreDisjoint (block_reserved r) (block_of m)
  pub found : (r : Reservation) (l : Lock) (lines : ℕ) → Contains (pending_in v).reserved r → Contains next.locks l → l.block ≡ Some lines → AreDisjoint (block_reserved r) (block_at_line l.line lines)
  pub unfreed : (r : Reservation) → Contains (pending_in v).reserved r → is_freed_in next r.off ≡ false

pub reserved_stays : (v next : View) → HasReserved v → ReservedOn v next → HasReserved next
reserved_stays v next has on = record {
  each = λ r there. stands_still v next r on.lane (on.words r (before r there)) (has.each r (before r there));
  once = subst (λ (rs : List Reservation). IsDistinct nat_eq (map (λ (r : Reservation). r.off) rs)) (sym on.reserved) has.once;
  apart = λ r s there too differ. has.apart r s (before r there) (before s too) differ;
  apart_made = λ r m there new. on.made r m (before r there) new;
  apart_found = λ r l lines there held is. on.found r l lines (before r there) held is;
  unfreed = λ r there. on.unfreed r (before r there);
} where
  before : (r : Reservation) → Contains (pending_in next).reserved r → Contains (pending_in v).reserved r
  before r there = subst (λ (rs : List Reservation). Contains rs r) on.reserved there

-- where nothing is reserved
pub none_reserved : (v : View) → (pending_in v).reserved ≡ [] → HasReserved v
unfolding IsDistinct
none_reserved v none = record {
  each = λ r there. absurd (nothing r there);
  once = subst (λ (rs : List Reservation). IsDistinct nat_eq (map (λ (r : Reservation). r.off) rs)) (sym none) tt;
  apart = λ r s there too differ. absurd (nothing r there);
  apart_made = λ r m there new. absurd (nothing r there);
  apart_found = λ r l lines there held is. absurd (nothing r there);
  unfreed = λ r there. absurd (nothing r there);
} where
  nothing : (r : Reservation) → ¬ Contains (pending_in v).reserved r
  nothing r there = no_member r (subst (λ (rs : List Reservation). Contains rs r) none there)

-- the same locks are held
pub same_apart : (v next : View) → next.locks ≡ v.locks → HasReserved v → (r : Reservation) (l : Lock) (lines : ℕ) → Contains (pending_in v).reserved r → Contains next.locks l → l.block ≡ Some lines
    → AreDisjoint (block_reserved r) (block_at_line l.line lines)
same_apart v next locks has r l lines there held is = has.apart_found r l lines there (subst (λ (ls : List Lock). Contains ls l) locks held) is

-- two that lie apart do the other way round
pub turned : (b c : Block) → AreDisjoint b c → AreDisjoint c b
turned b c (inl before) = inr before
turned b c (inr behind) = inl behind

-- ---- behind an operation that leaves the call's blocks and what is reserved, where no word that the lane knew changed

pub reserved_told : (v next : View) (op : Operation) (reply : Option Value) → HasReserved v → Tells v next op reply → KeepsKnown v next → blocks_behind op reply (pending_in v) (blocks_in v) ≡ blocks_in v
    → (pending_behind op reply (pending_in v)).reserved ≡ (pending_in v).reserved → HasReserved next
reserved_told v next op reply has tells keeps leaves same =
    let blocks_same : blocks_in next ≡ blocks_in v = blocks_once_more v next op reply tells.keeps.entries tells.call ∙ leaves in
    reserved_stays v next has (record {
      lane = tells.keeps;
      reserved = ap (λ (p : Pending). p.reserved) (pending_once_more v next op reply tells.keeps.entries tells.call) ∙ same;
      words = λ r there. known_same v next r keeps (has.each r there);
      made = λ r m there new. has.apart_made r m there (subst (λ (b : CallBlocks). Contains (news_in b) m) blocks_same new);
      found = same_apart v next tells.locks has;
      unfreed = λ r there. ap (λ (b : CallBlocks). is_among b.freed r.off) blocks_same ∙ has.unfreed r there;
    })
