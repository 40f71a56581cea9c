-- The tree of a table: what it says of an entry, and what a write or one entry more leaves of it.
use Rattle.std.proofs.Common.{◌≡◌, ℕ, suc, ◌<◌, List, [], ◌∷◌, ◌++◌, length, get_or, set, Some, None, Option, All, sym, refl, ap, ◌∙◌, subst, arith}
use Rattle.std.proofs.lemmas.List.{get_or-map, get_or_append_left, length_push, length-map, get_or_push, map_push, map-set, set-get_or, set-append_left}
use Rattle.std.proofs.lemmas.List.Elements.{All-set, All-push, All-weaker}
use Rattle.space.specs.declared.laws.Side.{Side}
use Rattle.space.specs.declared.laws.Side.TheVariants.{Left, Right}
use Rattle.catalogue.specs.declared.entries.Entry.{Entry}
use Rattle.catalogue.specs.Entries.{child, with_child}
use Rattle.catalogue.specs.Trees.{Leads, Hangs, Sound, turns, Tree}

leads_more : (ts : List ℕ) (u t : ℕ) (o : Option ℕ) → Leads ts t o → Leads (ts ++ (u ∷ [])) t o
leads_more ts u t o h j e = (omega (arith, length_push ts u, (h j e).0), get_or_append_left ts (u ∷ []) 0 j (h j e).0 ∙ (h j e).1)

hangs_more : (ts : List ℕ) (u t : ℕ) (o : Option ℕ) → Hangs ts t o → Hangs (ts ++ (u ∷ [])) t o
hangs_more ts u t o h j e = (omega (arith, length_push ts u, (h j e).0), ap suc (get_or_append_left ts (u ∷ []) 0 j (h j e).0) ∙ (h j e).1)

-- the entry past the last, if it has this turn
leads_last : (ts : List ℕ) (m t u : ℕ) → length ts ≡ m → u ≡ t → Leads (ts ++ (u ∷ [])) t (Some m)
leads_last ts m t u l q j e =
    let k : m ≡ j = cc in
    (omega (arith, length_push ts u), get_or_push ts u 0 j (l ∙ k) ∙ q)

module _ {P B : Type 0} where
  -- ── reading ──

  pub turn_read : (es : List (Entry P B)) (i : ℕ) (e : Entry P B) → i < length es → e ≡ get_or es i e → get_or (turns es) i 0 ≡ e.turn
  turn_read es i e l r = get_or-map (λ (x : Entry P B). x.turn) es i e 0 l ∙ ap (λ (x : Entry P B). x.turn) (sym r)

  pub sound_read : (es : List (Entry P B)) (i : ℕ) (e : Entry P B) (o : Option ℕ) → Tree es o → i < length es → e ≡ get_or es i e → Sound (turns es) e
  sound_read es i e o t l r = subst (λ (x : Entry P B). Sound (turns es) x) (sym r) (t.sound i e l)

  pub leads_child : (ts : List ℕ) (e : Entry P B) (way : Side) → Sound ts e → Leads ts (suc e.turn) (child way e)
  leads_child ts e Left h = h.to_left
  leads_child ts e Right h = h.to_right

  -- ── writing ──

  pub turns_set : (es : List (Entry P B)) (i : ℕ) (e w : Entry P B) → i < length es → e ≡ get_or es i e → w.turn ≡ e.turn → turns (set es i w) ≡ turns es
  turns_set es i e w l r s =
      map-set (λ (x : Entry P B). x.turn) es i w
      ∙ (ap (λ t. set (turns es) i t) (s ∙ sym (turn_read es i e l r)) ∙ set-get_or (turns es) i 0)

  pub tree_set : (es : List (Entry P B)) (i : ℕ) (e w : Entry P B) (o : Option ℕ) → Tree es o → i < length es → e ≡ get_or es i e → w.turn ≡ e.turn → Sound (turns es) w → Tree (set es i w) o
  tree_set es i e w o t l r s h =
      let q : turns (set es i w) ≡ turns es = turns_set es i e w l r s in
      record {
        rooted = subst (λ ts. Leads ts 0 o) (sym q) t.rooted;
        sound = subst (λ ts. All (Sound ts) (set es i w)) (sym q) (All-set (Sound (turns es)) es i w h t.sound);
      }

  pub sound_more : (ts : List ℕ) (u : ℕ) (e : Entry P B) → Sound ts e → Sound (ts ++ (u ∷ [])) e
  sound_more ts u e h = record {
    early = omega (arith, length_push ts u, h.early);
    to_left = leads_more ts u (suc e.turn) e.left h.to_left;
    to_right = leads_more ts u (suc e.turn) e.right h.to_right;
    to_parent = hangs_more ts u e.turn e.parent h.to_parent;
  }

  pub turns_push : (es : List (Entry P B)) (x : Entry P B) → turns (es ++ (x ∷ [])) ≡ turns es ++ (x.turn ∷ [])
  turns_push es x = map_push (λ (y : Entry P B). y.turn) es x

  pub all_more : (es : List (Entry P B)) (x : Entry P B) → All (Sound (turns es)) es → Sound (turns es ++ (x.turn ∷ [])) x → All (Sound (turns (es ++ (x ∷ [])))) (es ++ (x ∷ []))
  all_more es x h s =
      let ts : List ℕ = turns es ++ (x.turn ∷ []) in
      subst (λ us. All (Sound us) (es ++ (x ∷ []))) (sym (turns_push es x))
      (All-push (Sound ts) es x (All-weaker (Sound (turns es)) (Sound ts) (λ y. sound_more (turns es) x.turn y) es h) s)

  -- the first entry, a root
  pub tree_first : (es : List (Entry P B)) (x : Entry P B) → Tree es None → x.turn ≡ 0 → x.left ≡ None → x.right ≡ None → x.parent ≡ None → Tree (es ++ (x ∷ [])) (Some (length es))
  tree_first es x t turn left right parent = record {
    rooted = subst (λ us. Leads us 0 (Some (length es))) (sym (turns_push es x)) (leads_last (turns es) (length es) 0 x.turn (length-map es (λ (y : Entry P B). y.turn)) turn);
    sound = all_more es x t.sound (record {
      early = omega (arith, length_push (turns es) x.turn);
      to_left = λ j e. absurd (cc (left));
      to_right = λ j e. absurd (cc (right));
      to_parent = λ j e. absurd (cc (parent));
    });
  }

  -- a new leaf below entry i, which takes it for its child on one side
  module _ (es : List (Entry P B)) (i : ℕ) (e x : Entry P B) (o : Option ℕ) (t : Tree es o) (l : i < length es) (r : e ≡ get_or es i e)
      (turn : x.turn ≡ suc e.turn) (left : x.left ≡ None) (right : x.right ≡ None) (parent : x.parent ≡ Some i) where
    good : Sound (turns es) e
    good = sound_read es i e o t l r

    all : length (turns es) ≡ length es
    all = length-map es (λ (y : Entry P B). y.turn)

    sound_leaf : Sound (turns es ++ (x.turn ∷ [])) x
    sound_leaf = record {
      early = omega (arith, length_push (turns es) x.turn, good.early);
      to_left = λ j q. absurd (cc (left));
      to_right = λ j q. absurd (cc (right));
      to_parent = λ j q.
          let k : i ≡ j = cc (parent) in (
            omega (arith, length_push (turns es) x.turn, all),
            ap suc (ap (λ m. get_or (turns es ++ (x.turn ∷ [])) m 0) (sym k) ∙ (get_or_append_left (turns es) (x.turn ∷ []) 0 i (omega (arith, all)) ∙ turn_read es i e l r)) ∙ sym turn,
          );
    }

    sound_parent : (way : Side) → Sound (turns es ++ (x.turn ∷ [])) (with_child way (length es) e)
    sound_parent Left =
        let k = sound_more (turns es) x.turn e good in
        record { early = k.early; to_left = leads_last (turns es) (length es) (suc e.turn) x.turn all turn; to_right = k.to_right; to_parent = k.to_parent }
    sound_parent Right =
        let k = sound_more (turns es) x.turn e good in
        record { early = k.early; to_left = k.to_left; to_right = leads_last (turns es) (length es) (suc e.turn) x.turn all turn; to_parent = k.to_parent }

    same_turn : (way : Side) → (with_child way (length es) e).turn ≡ e.turn
    same_turn Left = refl
    same_turn Right = refl

    pub tree_pushed : Tree (es ++ (x ∷ [])) o
    tree_pushed = record {
      rooted = subst (λ us. Leads us 0 o) (sym (turns_push es x)) (leads_more (turns es) x.turn 0 o t.rooted);
      sound = all_more es x t.sound sound_leaf;
    }

    pub tree_attached : (side : Side) → Tree (set es i (with_child side (length es) e) ++ (x ∷ [])) o
    tree_attached side = subst (λ (us : List (Entry P B)). Tree us o) (set-append_left es (x ∷ []) i (with_child side (length es) e) l)
        (tree_set (es ++ (x ∷ [])) i e (with_child side (length es) e) o tree_pushed
        (omega (arith, length_push es x))
        (r ∙ sym (get_or_append_left es (x ∷ []) e i l))
        (same_turn side)
        (subst (λ ts. Sound ts (with_child side (length es) e)) (sym (turns_push es x)) (sound_parent side)))
