-- The store of a network just set up has no channel, no row and no message, so that all of the invariant holds.
use Prim.Native.Nat.{ℕ, ◌<◌}
use mathlib.Core.Path.{◌≡◌, refl, ◌∙◌}
use mathlib.Core.List.{List, []}
use native.Mathlib.Decide.{dec_lt}
use native.Mathlib.Omega.{arith}
use Rattle.std.specs.declared.result.Result.TheVariants.{Ok}
use Rattle.schedule.specs.Feasible.{Table}
use Rattle.schedule.proofs.Network.{set_up}
use Rattle.store.specs.Layout.{Store, links_of, channels_of, clock_of, rows_of}
use Rattle.store.proofs.Laws.Sound.{Sound}
use Rattle.open_rules.specs.Search.{rows_to, table_of}
use Rattle.setup_fresh.proofs.Laws.Fresh as laws
use Rattle.setup.specs.SetUp.{set_up_answer, set_up_store}
use Rattle.setup.proofs.Laws.Answer.{ready_accepted, ready_store}
use Rattle.setup.proofs.Laws.Sound.{fresh_sound}
use Rattle.promise_view.specs.View.{keys_to, keys_of, plan_of, Accepted, traffic_of}
use Rattle.promise_view.proofs.Seen.{Seen, Steady, Near, InBurst, Within}
use Rattle.promise_view.proofs.Keys.{keys_are, no_keys}

-- nothing was accepted
abbrev pub none : Accepted
none x = []

module _ (w : Store) (links : List ℕ) (e : set_up_answer w links ≡ Ok tt) where
  abbrev w₀ : Store
  w₀ = set_up_store w links

  sound : Sound w₀
  sound = rw (ready_store w links e) (fresh_sound w links (ready_accepted w links e))

  pub fresh_channels : channels_of w₀ ≡ 0
  fresh_channels = rw (ready_store w links e) (laws.fresh_channels w links)

  no_rows : (l : ℕ) → l < links_of w₀ → rows_of w₀ l ≡ 0
  no_rows l h = rw (ready_store w links e) (laws.fresh_rows w links l (omega (arith, sound.counts.links_most)))

  table : (l : ℕ) → l < links_of w₀ → Table (table_of w₀ l)
  unfolding rows_to
  table l h = rw (no_rows l h) (record { packets = tt; constrained = tt; feasible = tt })

  pub fresh_seen : Seen w₀ none
  fresh_seen = record {
    sound = sound;
    tables = table;
    told = λ x h. absurd (omega (arith, fresh_channels));
    orderly = λ x. tt;
    none = λ x h. refl;
  }

  keys : (l : ℕ) → keys_of w₀ l ≡ []
  unfolding keys_to
  keys l = go (dec_lt l (links_of w₀))
    where
      go : Dec (l < links_of w₀) → keys_of w₀ l ≡ []
      go (yes h) = keys_are w₀ l h ∙ rw (no_rows l h)
      go (no h) = no_keys w₀ l (omega (arith, h))

  pub fresh_steady : Steady w₀ none
  fresh_steady = set_up (plan_of w₀) (traffic_of w₀ none) (clock_of w₀) keys

  pub fresh_near : Near w₀ none
  fresh_near x j n h = absurd (omega (arith, fresh_channels))

  pub fresh_in_burst : InBurst w₀ none
  fresh_in_burst x n h = absurd (omega (arith, fresh_channels))

  pub fresh_within : Within w₀
  fresh_within x h = absurd (omega (arith, fresh_channels))
