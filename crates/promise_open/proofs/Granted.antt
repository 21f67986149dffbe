-- An open: where it is accepted, what it leaves as it was and what it writes of the new channel, in one record; refused, it
-- writes nothing.
use Prim.Native.Nat.{ℕ, suc, ◌≤◌, ◌<◌}
use mathlib.Core.Path.{◌≡◌, refl, sym, ◌∙◌, subst}
use native.Mathlib.Numerals.{add-one}
use Rattle.std.specs.declared.result.Result.TheVariants.{Ok, Err}
use Rattle.kinds.specs.declared.Refusal.{Refusal}
use Rattle.kinds.specs.Ranges.{most_hops}
use Rattle.store.specs.Layout.{Store, channels_of, c_of, p_of, d_of, b_of, hops_of, route_of, delay_of, sent_of, IsChannel}
use Rattle.store.specs.Amounts.{reserved_of}
use Rattle.store_same.proofs.Same.{SameNetwork, SameRecord}
use Rattle.store_same.proofs.Numbers.{SameNumbers, kept_numbers}
use Rattle.open_rules.specs.Request.{Request, hops, link}
use Rattle.open_rules.specs.Refusal.{delays_of, reserved_for}
use Rattle.open_rules.specs.Open.{open_outcome, open_store}
use Rattle.open_keeps.proofs.Kept.{Opened, was_sound, record_kept, network_kept, open_keeps}
use Rattle.open_keeps.proofs.New.{new_reserved}
use Rattle.open.proofs.Laws.{accepted_number, accepted_early, accepted_after}

-- the open of q in w was accepted as channel n
pub record Granted (w : Store) (q : Request) (n : ℕ) : Type 0 where
  pub number : n ≡ channels_of w
  pub channels : channels_of (open_store w q) ≡ suc n
  pub network : SameNetwork w (open_store w q)
  pub old : (x : ℕ) → IsChannel w x → SameRecord w (open_store w q) x
  pub c_is : c_of (open_store w q) n ≡ q.c
  pub p_is : p_of (open_store w q) n ≡ q.p
  pub d_is : d_of (open_store w q) n ≡ q.d
  pub b_is : b_of (open_store w q) n ≡ q.b
  pub hops_is : hops_of (open_store w q) n ≡ hops q
  pub hops_most : hops q ≤ most_hops
  pub route_is : (j : ℕ) → j < hops q → route_of (open_store w q) n j ≡ link q j
  pub delay_is : (j : ℕ) → j < hops q → delay_of (open_store w q) n j ≡ delays_of w q j
  pub reserved_is : (j : ℕ) → j < hops q → reserved_of (open_store w q) n j ≡ reserved_for w q j
  pub sent_is : (j : ℕ) → j < hops q → sent_of (open_store w q) n j ≡ 0

module _ {w : Store} (q : Request) (n : ℕ) (a : open_outcome w q ≡ Ok n) where
  -- as crate `open_keeps` has it
  pub open_kept : Opened w (open_store w q) q (delays_of w q)
  open_kept = record { early = accepted_early w q n a; after = accepted_after w q n a }

  pub open_numbers : (x : ℕ) → IsChannel w x → SameNumbers w (open_store w q) x
  open_numbers = kept_numbers (was_sound open_kept) (open_keeps open_kept)

  pub granted : Granted w q n
  granted =
      let o : Opened w (open_store w q) q (delays_of w q) = open_kept in
      subst (Granted w q) (sym (accepted_number w q n a))
      (record {
        number = refl;
        channels = o.after.channels ∙ add-one (channels_of w);
        network = network_kept o;
        old = record_kept o;
        c_is = o.after.c_is;
        p_is = o.after.p_is;
        d_is = o.after.d_is;
        b_is = o.after.b_is;
        hops_is = o.after.hops_is;
        hops_most = o.early.hops_most;
        route_is = o.after.route_is;
        delay_is = o.after.delay_is;
        reserved_is = new_reserved o;
        sent_is = o.after.sent_is;
      })

-- "Nothing stored changes" on a refusal
pub refused_store : (w : Store) (q : Request) (refusal : Refusal) → open_outcome w q ≡ Err refusal → open_store w q ≡ w
unfolding open_store
refused_store w q refusal e = rw (e, open_store)
