-- How multi-pack-indexes cover pack indexes.
use Rattle.gix_hash.proofs.Std.{◌≡◌, ◌∙◌, ◌++◌, ◌∷◌, [], ℕ, All-append, All-cons, All-nil, Contains, Contains-append_cases, Contains-append_left, Contains-append_right, Err, IfOk, IfSome, IsOk, List, Ok, Option, Result, Some, ◌⊎◌, ap, append-nil, arith, codes, get_or, inl, inr, map, map-append, option_map, refl, subst, sym}
use Rattle.gix_hash.specs.declared.Kind.{Kind}
use Rattle.std.specs.Option.{ForSome, MatchOption}
use Rattle.std.specs.Path.{path_join}
use Rattle.std.specs.Result.{result_ok}
use Rattle.pack_index.specs.Lazy.{Tables, tables_of}
use Rattle.pack_index.specs.Multi.{IsReadAsMulti}
use Rattle.pack_index.specs.declared.layout.Layout.{Layout}
use Rattle.repositories.specs.Answers.{Answers}
use Rattle.directory_store.specs.Multi.{AreCovered, AreCoveredOrDamaged, AreFor, AreInstead, AreRead, AreSplit, IsMultiOf, Multi, multi_path, multi_tables, named_in}
use Rattle.directory_store.specs.Packs.{AreOpenOrDamaged, bytes_at, tables_at}
use Rattle.directory_store.specs.declared.error.Error.{Error}
use Rattle.directory_store.specs.declared.multi.Purpose.{Purpose}
use Rattle.directory_store.specs.declared.multi.Purpose.TheVariants.{Ids, Locations}
use Rattle.directory_store.proofs.Damage.{answered}

-- what holds of what is there
pub some_is : {X : Type 0} (P : X → Type 0) (o : Option X) (x : X) → o ≡ Some x → IfSome o P → P x
some_is P o x is has = subst (λ o. IfSome o P) is has

pub some_found : {X : Type 0} (N : Type 0) (P : X → Type 0) (o : Option X) (x : X) → o ≡ Some x → MatchOption o N P → P x
some_found N P o x is has = subst (λ o. MatchOption o N P) is has

-- what follows of what a call returned
pub both_ok : {X E : Type 0} (P Q R : X → Type 0) (r : Result X E) → IfOk r P → IfOk r Q → ((x : X) → P x → Q x → R x) → IfOk r R
both_ok P Q R (Ok x) one other f = f x one other
both_ok P Q R (Err e) one other f = tt

none_for : (purpose : Purpose) → AreFor purpose []
none_for Ids = tt
none_for Locations = refl

module _ (at : Answers) (kind : Kind) where
  -- all pack indexes are left if no multi-pack-index is read
  none_covered : (directories listed : List (List ℕ)) → AreCovered at kind directories listed [] listed
  none_covered directories listed = record { each = All-nil (IsMultiOf at kind directories listed); from = λ path has. has; all = λ path has. inl has }

  pub none_instead : (directories listed : List (List ℕ)) → AreInstead at kind directories listed [] listed []
  none_instead directories listed = record { multis = []; covered = none_covered directories listed; all = refl; are_tables = refl }

  -- a multi-pack-index of some directories is one of more, where more is listed
  of_more : (directories more listed others : List (List ℕ)) (multi : Multi) → ((d : List ℕ) → Contains directories d → Contains more d) → ((p : List ℕ) → Contains listed p → Contains others p)
      → IsMultiOf at kind directories listed multi → IsMultiOf at kind more others multi
  of_more directories more listed others multi places paths is = record {
    place = places multi.packs is.place;
    is_there = is.is_there;
    is_read = is.is_read;
    are_listed = λ path named. paths path (is.are_listed path named);
  }

  -- those of two parts of the directories, and of what is listed
  pub both_instead : (places more listed others paths more_paths left more_left : List (List ℕ)) (tables more_tables : List (Option Tables)) → AreInstead at kind places listed paths left tables
      → AreInstead at kind more others more_paths more_left more_tables
      → AreInstead at kind (places ++ more) (listed ++ others) (paths ++ more_paths) (left ++ more_left) (tables ++ more_tables)
  both_instead places more listed others paths more_paths left more_left tables more_tables first second =
      let IsOne : Multi → Type 0 = IsMultiOf at kind (places ++ more) (listed ++ others) in record {
        multis = first.multis ++ second.multis;
        covered = record {
          each = All-append IsOne first.multis second.multis
              (λ k d low. of_more places (places ++ more) listed (listed ++ others) (get_or first.multis k d) (Contains-append_left places more) (Contains-append_left listed others)
              (first.covered.each k d low))
              (λ k d low. of_more more (places ++ more) others (listed ++ others) (get_or second.multis k d) (Contains-append_right places more) (Contains-append_right listed others)
              (second.covered.each k d low));
          from = λ path has. elim (Contains-append_cases left more_left path has) [
            | inl here ↦ Contains-append_left listed others path (first.covered.from path here)
            | inr there ↦ Contains-append_right listed others path (second.covered.from path there)
          ];
          all = λ path has. elim (Contains-append_cases listed others path has) [
            | inl here ↦ elim (first.covered.all path here) [
              | inl is ↦ inl (Contains-append_left left more_left path is)
              | inr one ↦ inr (one.0, Contains-append_left first.multis second.multis one.0 one.1, one.2)
            ]
            | inr there ↦ elim (second.covered.all path there) [
              | inl is ↦ inl (Contains-append_right left more_left path is)
              | inr one ↦ inr (one.0, Contains-append_right first.multis second.multis one.0 one.1, one.2)
            ]
          ];
        };
        all = (λ i. first.all i ++ second.all i) ∙ sym (map-append multi_path first.multis second.multis);
        are_tables = (λ i. first.are_tables i ++ second.are_tables i) ∙ sym (map-append (λ (multi : Multi). Some (multi_tables kind multi)) first.multis second.multis);
      }

  -- one more of them, in one directory more
  pub one_instead : (places reached paths left here others : List (List ℕ)) (place path : List ℕ) (tables : List (Option Tables)) (table : Option Tables)
      (new_places new_paths new_left : List (List ℕ)) (new_tables : List (Option Tables)) → new_places ≡ places ++ place ∷ [] → new_paths ≡ paths ++ path ∷ []
      → new_left ≡ left ++ others → new_tables ≡ tables ++ table ∷ [] → AreInstead at kind places reached paths left tables
      → AreInstead at kind (place ∷ []) here (path ∷ []) others (table ∷ []) → AreInstead at kind new_places (reached ++ here) new_paths new_left new_tables
  one_instead places reached paths left here others place path tables table new_places new_paths new_left new_tables are_places are_paths are_left are_tables before one =
      subst (λ d. AreInstead at kind d (reached ++ here) new_paths new_left new_tables) (sym are_places)
      (subst (λ p. AreInstead at kind (places ++ place ∷ []) (reached ++ here) p new_left new_tables) (sym are_paths)
      (subst (λ l. AreInstead at kind (places ++ place ∷ []) (reached ++ here) (paths ++ path ∷ []) l new_tables) (sym are_left)
      (subst (λ t. AreInstead at kind (places ++ place ∷ []) (reached ++ here) (paths ++ path ∷ []) (left ++ others) t) (sym are_tables)
      (both_instead places (place ∷ []) reached here paths (path ∷ []) left others tables (table ∷ []) before one))))

  -- more that none of them covers
  pub more_instead : (places more reached here paths left : List (List ℕ)) (tables : List (Option Tables)) (new_places new_paths new_left : List (List ℕ)) (new_tables : List (Option Tables))
      → new_places ≡ places ++ more → new_paths ≡ paths → new_left ≡ left ++ here → new_tables ≡ tables → AreInstead at kind places reached paths left tables
      → AreInstead at kind new_places (reached ++ here) new_paths new_left new_tables
  more_instead places more reached here paths left tables new_places new_paths new_left new_tables are_places are_paths are_left are_tables before =
      subst (λ d. AreInstead at kind d (reached ++ here) new_paths new_left new_tables) (sym are_places)
      (subst (λ p. AreInstead at kind (places ++ more) (reached ++ here) p new_left new_tables) (append-nil paths ∙ sym are_paths)
      (subst (λ l. AreInstead at kind (places ++ more) (reached ++ here) (paths ++ []) l new_tables) (sym are_left)
      (subst (λ t. AreInstead at kind (places ++ more) (reached ++ here) (paths ++ []) (left ++ here) t) (append-nil tables ∙ sym are_tables)
      (both_instead places more reached here paths [] left here tables [] before (none_instead more here)))))

  -- one that was opened
  pub opened_instead : (directory path names : List ℕ) (listed named left : List (List ℕ)) (content : Option (List ℕ)) (layout : Layout) → path ≡ path_join directory (codes "multi-pack-index")
      → content ≡ bytes_at at path → IsOk (at.bytes path) → ForSome content (λ bytes. IsReadAsMulti kind bytes layout names) → named ≡ named_in directory names → AreSplit listed named left
      → AreInstead at kind (directory ∷ []) listed (path ∷ []) left (option_map (tables_of kind layout) content ∷ [])
  opened_instead directory path names listed named left content layout is_path is_content is_read reads are split =
      let bytes = answered (at.bytes path) is_read in
      let same : content ≡ Some bytes.0 = is_content ∙ ap result_ok bytes.1 in
      let multi : Multi = record { packs = directory; bytes = bytes.0; layout = layout; names = names } in
      let Is = IsMultiOf at kind (directory ∷ []) listed in record {
        multis = multi ∷ [];
        covered = record {
          each = All-cons Is multi [] (record {
            place = (0, omega arith, refl);
            is_there = subst (λ p. at.bytes p ≡ Ok bytes.0) is_path bytes.1;
            is_read = reads bytes.0 same;
            are_listed = λ p has. split.are_listed p (subst (λ (l : List (List ℕ)). Contains l p) (sym are) has);
          }) (All-nil Is);
          from = split.from;
          all = λ p has. elim (split.all p has) [
            | inl is ↦ inl is
            | inr is ↦ inr (multi, (0, omega arith, refl), subst (λ (l : List (List ℕ)). Contains l p) are is)
          ];
        };
        all = λ i. is_path i ∷ [];
        are_tables = ap (λ (o : Option (List ℕ)). option_map (tables_of kind layout) o ∷ []) same;
      }

  -- what is read of all that is listed, if multi-pack-indexes are, and what is left
  pub read_instead : (directories listed paths left : List (List ℕ)) (tables others : List (Option Tables)) → AreInstead at kind directories listed paths left tables
      → others ≡ map (tables_at at kind) left → AreRead at Ids kind directories listed (paths ++ left) (tables ++ others)
  read_instead directories listed paths left tables others are rest = record {
    multis = are.multis;
    left = left;
    chosen = tt;
    covered = are.covered;
    all = λ i. are.all i ++ left;
    are_tables = λ i. are.are_tables i ++ rest i;
  }

  pub read_alone : (purpose : Purpose) (directories listed : List (List ℕ)) (tables : List (Option Tables)) → tables ≡ map (tables_at at kind) listed
      → AreRead at purpose kind directories listed listed tables
  read_alone purpose directories listed tables are = record { multis = []; left = listed; chosen = none_for purpose; covered = none_covered directories listed; all = refl; are_tables = are }

  -- of what is left each is open or damaged
  pub damaged_instead : (directories listed paths left opened : List (List ℕ)) (tables : List (Option Tables)) (skipped : List Error) → AreInstead at kind directories listed paths left tables
      → AreOpenOrDamaged at kind left opened skipped → AreCoveredOrDamaged at Ids kind directories listed (paths ++ opened) skipped
  damaged_instead directories listed paths left opened tables skipped are others = record {
    multis = are.multis;
    left = left;
    chosen = tt;
    covered = are.covered;
    others = record {
      each = λ k d low. elim (others.each k d low) [
        | inl has ↦ inl (Contains-append_right paths opened (get_or left k d) has)
        | inr one ↦ inr one
      ];
      are_damaged = others.are_damaged;
    };
  }

  pub damaged_alone : (purpose : Purpose) (directories listed opened : List (List ℕ)) (skipped : List Error) → AreOpenOrDamaged at kind listed opened skipped
      → AreCoveredOrDamaged at purpose kind directories listed opened skipped
  damaged_alone purpose directories listed opened skipped others = record { multis = []; left = listed; chosen = none_for purpose; covered = none_covered directories listed; others = others }

-- a split, as far as some paths were reached, while the rest of what is named is left
pub record IsSplitSoFar (reached named rest left : List (List ℕ)) : Type 0 where
  pub part : (path : List ℕ) → Contains rest path → Contains named path
  pub done : (path : List ℕ) → Contains named path → Contains rest path ⊎ Contains reached path
  pub from : (path : List ℕ) → Contains left path → Contains reached path
  pub all : (path : List ℕ) → Contains reached path → Contains left path ⊎ Contains named path

module _ (reached named rest left : List (List ℕ)) (path : List ℕ) where
  -- the next path that is named is reached
  pub one_named : IsSplitSoFar reached named (path ∷ rest) left → IsSplitSoFar (reached ++ path ∷ []) named rest left
  one_named before = record {
    part = λ p has. before.part p (Contains-append_right (path ∷ []) rest p has);
    done = λ p has. elim (before.done p has) [
      | inl next ↦ elim (Contains-append_cases (path ∷ []) rest p next) [
        | inl is ↦ inr (Contains-append_right reached (path ∷ []) p is)
        | inr later ↦ inl later
      ]
      | inr there ↦ inr (Contains-append_left reached (path ∷ []) p there)
    ];
    from = λ p has. Contains-append_left reached (path ∷ []) p (before.from p has);
    all = λ p has. elim (Contains-append_cases reached (path ∷ []) p has) [
      | inl there ↦ before.all p there
      | inr is ↦ inr (before.part p (Contains-append_left (path ∷ []) rest p is))
    ];
  }

  -- a path that is not named is reached
  pub one_left : IsSplitSoFar reached named rest left → IsSplitSoFar (reached ++ path ∷ []) named rest (left ++ path ∷ [])
  one_left before = record {
    part = before.part;
    done = λ p has. elim (before.done p has) [
      | inl next ↦ inl next
      | inr there ↦ inr (Contains-append_left reached (path ∷ []) p there)
    ];
    from = λ p has. elim (Contains-append_cases left (path ∷ []) p has) [
      | inl there ↦ Contains-append_left reached (path ∷ []) p (before.from p there)
      | inr is ↦ Contains-append_right reached (path ∷ []) p is
    ];
    all = λ p has. elim (Contains-append_cases reached (path ∷ []) p has) [
      | inl there ↦ elim (before.all p there) [
        | inl is ↦ inl (Contains-append_left left (path ∷ []) p is)
        | inr named ↦ inr named
      ]
      | inr is ↦ inl (Contains-append_right left (path ∷ []) p is)
    ];
  }

pub split_done : (reached named left : List (List ℕ)) → IsSplitSoFar reached named [] left → AreSplit reached named left
split_done reached named left is = record {
  are_listed = λ p has. elim (is.done p has) [
    | inl none ↦ absurd (omega (arith, none.1))
    | inr there ↦ there
  ];
  from = is.from;
  all = is.all;
}
