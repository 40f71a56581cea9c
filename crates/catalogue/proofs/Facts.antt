-- That the entries in use hang together as a tree is a fact: it has one proof at most.
use Rattle.std.proofs.Common.{ℕ, suc, List, Option, All, slice_index_or}
use Rattle.std.proofs.Math.Bridge.{le_prop}
use Rattle.std.proofs.Math.Nat.{ℕ_set}
use Rattle.catalogue.specs.declared.entries.Entry.{Entry}
use Rattle.catalogue.specs.Trees.{Leads, Hangs, Sound, turns, Tree}

leads_prop : (ts : List ℕ) (t : ℕ) (o : Option ℕ) → Prim.IsProp (Leads ts t o)
leads_prop ts t o p q = λ i j e. (le_prop (p j e).0 (q j e).0 i, ℕ_set _ _ (p j e).1 (q j e).1 i)

hangs_prop : (ts : List ℕ) (t : ℕ) (o : Option ℕ) → Prim.IsProp (Hangs ts t o)
hangs_prop ts t o p q = λ i j e. (le_prop (p j e).0 (q j e).0 i, ℕ_set _ _ (p j e).1 (q j e).1 i)

module _ {P B : Type 0} where
  sound_prop : (ts : List ℕ) (e : Entry P B) → Prim.IsProp (Sound ts e)
  sound_prop ts e p q = λ i. record {
    early = le_prop p.early q.early i;
    to_left = leads_prop ts (suc e.turn) e.left p.to_left q.to_left i;
    to_right = leads_prop ts (suc e.turn) e.right p.to_right q.to_right i;
    to_parent = hangs_prop ts e.turn e.parent p.to_parent q.to_parent i;
  }

  pub all_prop : (ts : List ℕ) (es : List (Entry P B)) → Prim.IsProp (All (Sound ts) es)
  all_prop ts es p q = λ i k d l. sound_prop ts (slice_index_or es k d) (p k d l) (q k d l) i

  pub tree_prop : (es : List (Entry P B)) (r : Option ℕ) → Prim.IsProp (Tree es r)
  tree_prop es r p q = λ i. record {
    rooted = leads_prop (turns es) 0 r p.rooted q.rooted i;
    sound = all_prop (turns es) es p.sound q.sound i;
  }
