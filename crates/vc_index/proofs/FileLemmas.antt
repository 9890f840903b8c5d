-- The files of a tree: a path is that of one file, and no file lies below another.
use Rattle.std.proofs.Common.{◌≡◌, ◌≢◌, ℕ, List, [], ◌∷◌, ◌++◌, map, Option, Some, refl, ap, sym, ◌∙◌, subst, ⊎_elim, ◌⊎◌, inl, inr, append_assoc}
use Rattle.std.specs.Prelude.{unwrap_or}
use Rattle.std.specs.List.{AllByRecursion, join_with_byte}
use Rattle.vc_object.specs.Decoding.{StoredObject, stored_object}
use Rattle.vc_object.specs.Entries.{entries_of}
use Rattle.vc_object.specs.ObjectMap.{ObjectMap}
use Rattle.vc_object.specs.Tree.{Entry, IsEntry, IsTree, IsName, ComesBefore, InOrder, spelling}
use Rattle.vc_object.specs.declared.id.ObjectId.{ObjectId}
use Rattle.vc_object.specs.declared.kind.Kind.TheVariants as kinds
use Rattle.vc_object.specs.declared.mode.Mode.{Mode}
use Rattle.vc_object.specs.declared.mode.Mode.TheVariants as modes
use Rattle.vc_object.proofs.Texts.{cut_once, no_cut}
use Rattle.vc_object.proofs.Reading.{entries_again}
use Rattle.vc_index.specs.HeldFiles.{Pair, under, Has, HasFile, placed}
use Rattle.vc_index.specs.IndexMap.{index_entry}
use Rattle.vc_index.specs.TreeFiles.{IsTreeAt, HasEntry, LeadsTo, IsFileOfTree}

-- an entry of a tree has a good name
pub name_of_entry : (es : List Entry) (m : Mode) (name : List ℕ) (i : ObjectId) → AllByRecursion IsEntry es → HasEntry es m name i → IsName name
name_of_entry [] m name i a h = absurd h
name_of_entry (e ∷ es) m name i a h = ⊎_elim (λ here. subst IsName here.1 a.0.name) (λ there. name_of_entry es m name i a.1 there) h

absent : (e : Entry) (es : List Entry) (m : Mode) (i : ObjectId) → AllByRecursion (λ o. ComesBefore e o) es → HasEntry es m e.name i → ⊥
absent e [] m i a h = h
absent e (f ∷ es) m i a h = ⊎_elim (λ here. a.0.apart (sym here.1)) (λ there. absent e es m i a.1 there) h

one_entry : (es : List Entry) (m n : Mode) (name : List ℕ) (i j : ObjectId) → InOrder es → HasEntry es m name i → HasEntry es n name j → (m ≡ n) × (i ≡ j)
one_entry [] m n name i j o a b = absurd a
one_entry (e ∷ es) m n name i j o a b = ⊎_elim
    (λ x. ⊎_elim
    (λ y. (sym x.0 ∙ y.0, sym x.2 ∙ y.2))
    (λ y. absurd (absent e es n j o.0 (subst (λ (t : List ℕ). HasEntry es n t j) (sym x.1) y)))
    b)
    (λ x. ⊎_elim
    (λ y. absurd (absent e es m i o.0 (subst (λ (t : List ℕ). HasEntry es m t i) (sym y.1) x)))
    (λ y. one_entry es m n name i j o.1 x y)
    b)
    a

body_of : Option StoredObject → List ℕ
body_of found = (unwrap_or {T = StoredObject} found (stored_object kinds.Blob [])).body

same_body : (x y : List ℕ) → ◌≡◌ {A = Option StoredObject} (Some (stored_object kinds.Tree x)) (Some (stored_object kinds.Tree y)) → x ≡ y
unfolding body_of
same_body x y e = ap body_of e

-- a name is that of one tree
pub one_tree : (objects : ObjectMap) (id : ObjectId) (es gs : List Entry) → IsTreeAt objects id es → IsTreeAt objects id gs → es ≡ gs
one_tree objects id es gs a b =
    let same : spelling es ≡ spelling gs = same_body (spelling es) (spelling gs) (sym a.stored ∙ b.stored) in
    sym (entries_again es a.tree.legal) ∙ ap entries_of same ∙ entries_again gs b.tree.legal

one_end : (objects : ObjectMap) (es : List Entry) (a b : List (List ℕ)) (m n : Mode) (i j : ObjectId) → IsTree es → LeadsTo objects es a m i → LeadsTo objects es b n j → join_with_byte 47 a ≡ join_with_byte 47 b → (m ≡ n) × (i ≡ j)
one_end objects es [] b m n i j t p q e = absurd p
one_end objects es (x ∷ a) [] m n i j t p q e = absurd q
one_end objects es (x ∷ []) (y ∷ []) m n i j t p q e = one_entry es m n y i j t.order (subst (λ (s : List ℕ). HasEntry es m s i) e p.0) q.0
one_end objects es (x ∷ []) (y ∷ z ∷ b) m n i j t p q e = absurd (no_cut 47 x y _ (name_of_entry es m x i t.legal p.0).no_slash e)
one_end objects es (x ∷ u ∷ a) (y ∷ []) m n i j t p q e = absurd (no_cut 47 y x _ (name_of_entry es n y j t.legal q.0).no_slash (sym e))
one_end objects es (x ∷ u ∷ a) (y ∷ z ∷ b) m n i j t p q e =
    let c = cut_once 47 x y (join_with_byte 47 (u ∷ a)) (join_with_byte 47 (z ∷ b)) (name_of_entry es modes.Tree x p.0 t.legal p.2).no_slash (name_of_entry es modes.Tree y q.0 t.legal q.2).no_slash e in
    let folder = one_entry es modes.Tree modes.Tree y p.0 q.0 t.order (subst (λ (s : List ℕ). HasEntry es modes.Tree s p.0) c.0 p.2) q.2 in
    let other : IsTreeAt objects q.0 p.1 = subst (λ (d : ObjectId). IsTreeAt objects d p.1) folder.1 p.3 in
    let same = one_tree objects q.0 q.1 p.1 q.3 other in
    one_end objects p.1 (u ∷ a) (z ∷ b) m n i j p.3.tree p.4 (subst (λ (gs : List Entry). LeadsTo objects gs (z ∷ b) n j) same q.4) c.1

-- no path is that of two files
pub one_file : (objects : ObjectMap) (root : ObjectId) (path : List ℕ) (m n : Mode) (i j : ObjectId) → IsFileOfTree objects root path m i → IsFileOfTree objects root path n j → (m ≡ n) × (i ≡ j)
one_file objects root path m n i j a b =
    let same = one_tree objects root b.entries a.entries b.at a.at in
    one_end objects a.entries a.names b.names m n i j a.at.tree a.leads (subst (λ (gs : List Entry). LeadsTo objects gs b.names n j) same b.leads) (sym a.is ∙ b.is)

-- names that lead to a file lead not through it
no_end : (objects : ObjectMap) (es : List Entry) (a b : List (List ℕ)) (m n : Mode) (i j : ObjectId) (rest : List ℕ) → IsTree es → LeadsTo objects es a m i → LeadsTo objects es b n j → join_with_byte 47 b ≡ join_with_byte 47 a ++ 47 ∷ rest → ⊥
no_end objects es [] b m n i j rest t p q e = p
no_end objects es (x ∷ a) [] m n i j rest t p q e = q
no_end objects es (x ∷ []) (y ∷ []) m n i j rest t p q e = no_cut 47 y x rest (name_of_entry es n y j t.legal q.0).no_slash e
no_end objects es (x ∷ []) (y ∷ z ∷ b) m n i j rest t p q e =
    let c = cut_once 47 y x (join_with_byte 47 (z ∷ b)) rest (name_of_entry es modes.Tree y q.0 t.legal q.2).no_slash (name_of_entry es m x i t.legal p.0).no_slash e in
    let both = one_entry es m modes.Tree x i q.0 t.order p.0 (subst (λ (s : List ℕ). HasEntry es modes.Tree s q.0) c.0 q.2) in
    p.1 both.0
no_end objects es (x ∷ u ∷ a) (y ∷ []) m n i j rest t p q e = no_cut 47 y x _ (name_of_entry es n y j t.legal q.0).no_slash (e ∙ append_assoc x (47 ∷ join_with_byte 47 (u ∷ a)) (47 ∷ rest))
no_end objects es (x ∷ u ∷ a) (y ∷ z ∷ b) m n i j rest t p q e =
    let c = cut_once 47 y x (join_with_byte 47 (z ∷ b)) (join_with_byte 47 (u ∷ a) ++ 47 ∷ rest) (name_of_entry es modes.Tree y q.0 t.legal q.2).no_slash (name_of_entry es modes.Tree x p.0 t.legal p.2).no_slash (e ∙ append_assoc x (47 ∷ join_with_byte 47 (u ∷ a)) (47 ∷ rest)) in
    let folder = one_entry es modes.Tree modes.Tree x p.0 q.0 t.order p.2 (subst (λ (s : List ℕ). HasEntry es modes.Tree s q.0) c.0 q.2) in
    let other : IsTreeAt objects q.0 p.1 = subst (λ (d : ObjectId). IsTreeAt objects d p.1) folder.1 p.3 in
    let same = one_tree objects q.0 q.1 p.1 q.3 other in
    no_end objects p.1 (u ∷ a) (z ∷ b) m n i j rest p.3.tree p.4 (subst (λ (gs : List Entry). LeadsTo objects gs (z ∷ b) n j) same q.4) c.1

-- no file's path is the folder of another's
pub no_file_below : (objects : ObjectMap) (root : ObjectId) (path other rest : List ℕ) (m n : Mode) (i j : ObjectId) → IsFileOfTree objects root path m i → IsFileOfTree objects root other n j → other ≡ path ++ 47 ∷ rest → ⊥
no_file_below objects root path other rest m n i j a b e =
    let same = one_tree objects root b.entries a.entries b.at a.at in
    no_end objects a.entries a.names b.names m n i j rest a.at.tree a.leads (subst (λ (gs : List Entry). LeadsTo objects gs b.names n j) same b.leads) (sym b.is ∙ e ∙ ap (λ p. p ++ 47 ∷ rest) a.is)

-- ---- what files and trees by their paths hold
module _ (objects : ObjectMap) (path : List ℕ) (mode : Mode) (id : ObjectId) where
  pub has_front : (es gs : List Pair) → HasFile objects es path mode id → HasFile objects (es ++ gs) path mode id
  has_front [] gs h = absurd h
  has_front (e ∷ es) gs h = ⊎_elim (λ x. inl x) (λ x. inr (has_front es gs x)) h

  pub has_back : (es gs : List Pair) → HasFile objects gs path mode id → HasFile objects (es ++ gs) path mode id
  has_back [] gs h = h
  has_back (e ∷ es) gs h = inr (has_back es gs h)

  pub has_parts : (es gs : List Pair) → HasFile objects (es ++ gs) path mode id → HasFile objects es path mode id ⊎ HasFile objects gs path mode id
  has_parts [] gs h = inr h
  has_parts (e ∷ es) gs h = ⊎_elim (λ x. inl (inl x)) (λ x. ⊎_elim (λ y. inl (inr y)) (λ y. inr y) (has_parts es gs x)) h

  has_placed : (folder : List ℕ) (es : List Entry) (m : Mode) (name : List ℕ) (i : ObjectId) → HasEntry es m name i → Has objects (placed folder (record { mode = m; name = name; id = i })) path mode id → HasFile objects (map (placed folder) es) path mode id
  has_placed folder [] m name i h x = absurd h
  has_placed folder (e ∷ es) m name i h x = ⊎_elim
      (λ here. inl (subst (λ (f : Entry). Has objects (placed folder f) path mode id) (λ k. record { mode = sym here.0 k; name = sym here.1 k; id = sym here.2 k }) x))
      (λ there. inr (has_placed folder es m name i there x))
      h

  placed_has : (folder : List ℕ) (es : List Entry) → HasFile objects (map (placed folder) es) path mode id → (e : Entry) × HasEntry es e.mode e.name e.id × Has objects (placed folder e) path mode id
  placed_has folder [] h = absurd h
  placed_has folder (e ∷ es) h = ⊎_elim
      (λ x. (e, inl (refl, refl, refl), x))
      (λ x. let r = placed_has folder es x in (r.0, inr r.1, r.2))
      h

  under_name : (folder name : List ℕ) → name ≢ [] → under (folder ++ name) ≡ folder ++ (name ++ 47 ∷ [])
  under_name [] [] some = absurd (some refl)
  under_name [] (x ∷ name) some = refl
  under_name (y ∷ folder) name some = append_assoc (y ∷ folder) name (47 ∷ [])

  module _ (top : List ℕ) (tree : ObjectId) (es : List Entry) (at : IsTreeAt objects tree es) where
    -- the files of a tree are among its entries, or below them
    pub opened : Has objects (top, index_entry modes.Tree tree) path mode id → HasFile objects (map (placed (under top)) es) path mode id
    opened (inl file) = absurd (file.0 refl)
    opened (inr (is, (q, below, f))) =
        let same = one_tree objects tree f.entries es f.at at in
        by_names f.names (subst (λ (gs : List Entry). LeadsTo objects gs f.names mode id) same f.leads) (below ∙ ap (λ t. under top ++ t) f.is)
      where
        by_names : (names : List (List ℕ)) → LeadsTo objects es names mode id → path ≡ under top ++ join_with_byte 47 names → HasFile objects (map (placed (under top)) es) path mode id
        by_names [] l e = absurd l
        by_names (name ∷ []) l e = has_placed (under top) es mode name id l.0 (inl (l.1, sym e, refl, refl))
        by_names (name ∷ next ∷ names) l e =
            has_placed (under top) es modes.Tree name l.0 l.2 (inr (
              refl,
              (
                join_with_byte 47 (next ∷ names),
                e ∙ sym (append_assoc (under top) (name ++ 47 ∷ []) _ ∙ ap (λ t. under top ++ t) (append_assoc name (47 ∷ []) _)) ∙ ap (λ t. t ++ join_with_byte 47 (next ∷ names)) (sym (under_name (under top) name (name_of_entry es modes.Tree name l.0 at.tree.legal l.2).some)),
                record { entries = l.1; names = next ∷ names; at = l.3; is = refl; leads = l.4 },
              ),
            ))

    pub closed : HasFile objects (map (placed (under top)) es) path mode id → Has objects (top, index_entry modes.Tree tree) path mode id
    closed h =
        let r = placed_has (under top) es h in
        from r.0 r.1 r.2
      where
        one_name : (e : Entry) → HasEntry es e.mode e.name e.id → (e.mode ≢ modes.Tree) → (under top ++ e.name ≡ path) → e.mode ≡ mode → e.id ≡ id → Has objects (top, index_entry modes.Tree tree) path mode id
        one_name e has file is m i = inr (
          refl,
          (
            e.name,
            sym is,
            record {
              entries = es;
              names = e.name ∷ [];
              at = at;
              is = refl;
              leads = subst (λ (k : Mode). LeadsTo objects es (e.name ∷ []) k id) m (subst (λ (j : ObjectId). LeadsTo objects es (e.name ∷ []) e.mode j) i (has, file));
            },
          ),
        )

        more_names : (e : Entry) (q : List ℕ) (names : List (List ℕ)) (inner : List Entry) → HasEntry es modes.Tree e.name e.id → path ≡ under (under top ++ e.name) ++ q → IsTreeAt objects e.id inner → q ≡ join_with_byte 47 names → LeadsTo objects inner names mode id → Has objects (top, index_entry modes.Tree tree) path mode id
        more_names e q [] inner has is there same l = absurd l
        more_names e q (name ∷ names) inner has is there same l = inr (
          refl,
          (
            e.name ++ 47 ∷ q,
            is ∙ ap (λ t. t ++ q) (under_name (under top) e.name (name_of_entry es modes.Tree e.name e.id at.tree.legal has).some) ∙ append_assoc (under top) (e.name ++ 47 ∷ []) q ∙ ap (λ t. under top ++ t) (append_assoc e.name (47 ∷ []) q),
            record { entries = es; names = e.name ∷ name ∷ names; at = at; is = ap (λ t. e.name ++ 47 ∷ t) same; leads = (e.id, inner, has, there, l) },
          ),
        )

        from : (e : Entry) → HasEntry es e.mode e.name e.id → Has objects (placed (under top) e) path mode id → Has objects (top, index_entry modes.Tree tree) path mode id
        from e has (inl file) = one_name e has file.0 file.1 file.2 file.3
        from e has (inr (is, (q, below, f))) = more_names e q f.names f.entries (subst (λ (k : Mode). HasEntry es k e.name e.id) is has) below f.at f.is f.leads
