-- The messages of a channel that has one message more: the new one follows the last, and those before it are in order as far
-- as they were. Its place among the 24 kept ones is that of the 24th from it, which is looked at no more.
use Prim.Native.Nat.{ℕ, zero, suc, ◌+◌, ◌-◌, ◌≤◌, ◌<◌}
use mathlib.Core.Path.{◌≡◌, ◌∙◌}
use mathlib.Core.Bool.{true, false, ◌||◌}
use native.Mathlib.Numerals.{add-one}
use native.Mathlib.Omega.{arith}
use lib.Dec.{leb}
use borrow.Author.Tests.{le-leb, lt-leb, lt-ltb}
use Rattle.kinds.specs.Ranges.{most_hops, most_channels}
use Rattle.store.specs.Layout.{Store, Long, ring, sent_at, time_at, end_at, c_of, p_of, hops_of, messages_of, sent_of, time_of, end_of}
use Rattle.store.specs.Amounts.{accepted_of, delivered_of}
use Rattle.store.specs.Sound.{delivered, follows, in_order}
use Rattle.folds.proofs.Folds.{or_true}
use Rattle.store.proofs.Laws.Sound.{ChannelIs}
use Rattle.store_same.proofs.Settled.{c_kept, p_kept, hops_kept}
use Rattle.offer_rules.specs.Offer.{time_after, offered}
use Rattle.slot_rules.proofs.Laws.Head.{sent_least, entered_most}
use Rattle.offer_keeps.proofs.Frame.{offered_frame, offered_settled, offered_time, offered_end}

module _ (w : Store) (x packets : ℕ) where
  pub sent_kept : (j : ℕ) → j < most_hops → sent_of (offered w x packets) x j ≡ sent_of w x j
  sent_kept j h = offered_frame w x packets (sent_at x j) (λ e. omega arith) (λ e. omega arith) (λ e. omega arith)

  -- the last 23 messages
  module _ (m : ℕ) (last : m ≤ messages_of w x) (live : messages_of w x < m + (ring - 1)) where
    pub time_kept : time_of (offered w x packets) x m ≡ time_of w x m
    time_kept = offered_frame w x packets (time_at x m) (λ e. omega arith) (λ e. omega arith) (λ e. omega arith)

    pub end_kept : end_of (offered w x packets) x m ≡ end_of w x m
    end_kept = offered_frame w x packets (end_at x m) (λ e. omega arith) (λ e. omega arith) (λ e. omega arith)

  module _ (h : x < most_channels) (hops_most : hops_of w x ≤ most_hops) where
    pub delivered_kept : delivered_of (offered w x packets) x ≡ delivered_of w x
    delivered_kept = rw (hops_kept (offered_settled w x packets h) x h) (sent_kept (hops_of w x - 1) (omega arith))

    past_kept : (m : ℕ) → m ≤ messages_of w x → messages_of w x < m + (ring - 1)
        → delivered (offered w x packets) x m ≡ delivered w x m
    past_kept m l n = rw (end_kept m l n, delivered_kept)

    follows_kept : (m : ℕ) → m < messages_of w x → messages_of w x < m + (ring - 1)
        → follows (offered w x packets) x m ≡ follows w x m
    follows_kept m l n =
        let s = offered_settled w x packets h in
        let l₁ : m ≤ messages_of w x = omega arith in
        let l₂ : m + 1 ≤ messages_of w x = omega arith in
        let n₂ : messages_of w x < m + 1 + (ring - 1) = omega arith in
        rw (past_kept m l₁ n, end_kept m l₁ n, end_kept (m + 1) l₂ n₂, time_kept m l₁ n, time_kept (m + 1) l₂ n₂, c_kept s x h)
        (rw (p_kept s x h))

    order_kept : (m kept : ℕ) → m ≤ messages_of w x → messages_of w x + kept ≤ m + (ring - 2)
        → in_order (offered w x packets) x m kept ≡ in_order w x m kept
    unfolding in_order
    order_kept m zero l n = past_kept m l (omega arith)
    order_kept zero (suc kept) l n = past_kept zero l (omega arith)
    order_kept (suc m) (suc kept) l n =
        rw (past_kept (suc m) l (omega arith), follows_kept m (omega arith) (omega arith))
        (rw (order_kept m kept (omega arith) (omega arith)))

-- the last message is delivered, or the new one is p after it
spaced : (w : Store) (x n kept : ℕ) → in_order w x n (suc kept) ≡ true
    → (delivered w x n || leb (time_of w x n + p_of w x) (time_after w x n)) ≡ true
unfolding in_order
spaced w x zero kept o = rw o
spaced w x (suc n) kept o =
    or_true (delivered w x (suc n)) _ (le-leb (time_of w x (suc n) + p_of w x) (time_after w x (suc n)) (omega arith))

-- one step back from a message that is not delivered and follows the one before it
step_back : (w : Store) (x n kept : ℕ) → delivered w x (n + 1) ≡ false → follows w x n ≡ true
    → in_order w x (n + 1) (suc kept) ≡ in_order w x n kept
unfolding in_order
step_back w x n kept d f = let e : delivered w x (suc n) ≡ false = rw (add-one n) at d in rw (add-one n, in_order, e, f)

module _ (w : Store) (x packets : ℕ) (h : x < most_channels) (long : Long w) (k : ChannelIs w x)
    (least : 1 ≤ packets) (most : packets ≤ c_of w x) where
  abbrev later : Store
  later = offered w x packets

  abbrev n : ℕ
  n = messages_of w x

  delivered_most : delivered_of w x ≤ accepted_of w x
  delivered_most =
      omega (arith, sent_least k 0 k.hops_least, k.course.flows 0 k.hops_least, entered_most k 0 k.hops_least)

  -- the new message is not delivered
  new_held : delivered later x (n + 1) ≡ false
  new_held =
      rw (offered_end w x packets h long, delivered_kept w x packets h k.hops_most)
      (lt-leb (accepted_of w x + packets) (delivered_of w x) (omega (arith, delivered_most)))

  new_follows : follows later x n ≡ true
  new_follows =
      let s = offered_settled w x packets h in
      let one : accepted_of w x < accepted_of w x + packets = omega arith in
      let all : accepted_of w x + packets ≤ accepted_of w x + c_of w x = omega arith in
      rw (offered_end w x packets h long, end_kept w x packets n (omega arith) (omega arith))
      (rw (offered_time w x packets h long, time_kept w x packets n (omega arith) (omega arith))
      (rw (delivered_kept w x packets h k.hops_most, c_kept s x h, p_kept s x h)
      (rw (lt-ltb _ _ one, le-leb _ _ all) (spaced w x n (ring - 2) k.course.order))))

  pub order_new : in_order later x (n + 1) (ring - 1) ≡ in_order w x n (ring - 2)
  order_new =
      step_back later x n (ring - 2) new_held new_follows
      ∙ order_kept w x packets h k.hops_most n (ring - 2) (omega arith) (omega arith)
