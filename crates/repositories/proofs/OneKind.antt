-- A config does not say a kind and have a fault.
use Rattle.gix_hash.proofs.Std.{◌≡◌, ◌≢◌, ◌∙◌, ◌∷◌, [], Err, IfSome, List, None, Ok, Option, Result, Some, ap, codes, inl, inr, map, option_map, option_or, refl, subst, sym, unwrap_or, ℕ}
use Rattle.gix_hash.specs.declared.Kind.{Kind}
use Rattle.git_config.proofs.OneReading.{one_reading}
use Rattle.git_config.specs.Grammar as grammar
use Rattle.git_config.specs.Views.{said}
use Rattle.git_config.specs.declared.Variable.{Variable}
use Rattle.std.specs.Path.{path_join, path_parent}
use Rattle.repositories.specs.Answers.{Answers}
use Rattle.repositories.specs.Discovery.{ConfigSays, HasKind, HasKindBeside}
use Rattle.repositories.specs.Formats.{Fault, Says, fault_of, first_fault, kind_in_format, kind_of, kind_or_fault, last_of, needs_of, reported, unknown_of, unless, version_of}
use Rattle.repositories.specs.Formats.Fault.{BadLine}
use Rattle.repositories.specs.Lookups.{short_file}
use Rattle.repositories.specs.declared.config.ConfigError.{ConfigError}

abbrev first_or : {X : Type 0} → X → List X → X
first_or other [] = other
first_or other (first ∷ rest) = first

abbrev rest_of : {X : Type 0} → List X → List X
rest_of [] = []
rest_of (first ∷ rest) = rest

-- a function takes two variables alike that are the same in the grammar
abbrev TakesAlike : {T : Type 0} → (Variable → Option T) → Type 0
TakesAlike pick = (v w : Variable) → v.name.items ≡ w.name.items → (said v).value ≡ (said w).value → pick v ≡ pick w

last_is : {T : Type 0} (pick : Variable → Option T) → TakesAlike pick → (before : Option T) (vs ws : List Variable) → map said vs ≡ map said ws → last_of pick before vs ≡ last_of pick before ws
last_is pick alike before [] [] same = refl
last_is pick alike before [] (w ∷ ws) same = absurd cc
last_is pick alike before (v ∷ vs) [] same = absurd cc
last_is pick alike before (v ∷ vs) (w ∷ ws) same =
    let first : said v ≡ said w = ap (first_or (said v)) same in
    let picked : pick v ≡ pick w = alike v w (ap (λ (s : grammar.Variable). s.name) first) (ap (λ (s : grammar.Variable). s.value) first) in
    ap (λ set. last_of pick (option_or set before) vs) picked ∙ last_is pick alike (option_or (pick w) before) vs ws (ap rest_of same)

fault_is : TakesAlike fault_of → (vs ws : List Variable) → map said vs ≡ map said ws → first_fault vs ≡ first_fault ws
fault_is alike [] [] same = refl
fault_is alike [] (w ∷ ws) same = absurd cc
fault_is alike (v ∷ vs) [] same = absurd cc
fault_is alike (v ∷ vs) (w ∷ ws) same =
    let first : said v ≡ said w = ap (first_or (said v)) same in
    let fault : fault_of v ≡ fault_of w = alike v w (ap (λ (s : grammar.Variable). s.name) first) (ap (λ (s : grammar.Variable). s.value) first) in
    λ i. option_or (fault i) (fault_is alike vs ws (ap rest_of same) i)

outcome_is : (vs ws : List Variable) (bad other : Option ℕ) → map said vs ≡ map said ws → bad ≡ other → kind_or_fault vs bad ≡ kind_or_fault ws other
outcome_is vs ws bad other same lines =
    let fault : first_fault vs ≡ first_fault ws = fault_is (λ v w name value. rw (name, value)) vs ws same in
    let version = last_is version_of (λ v w name value. rw (name, value)) None vs ws same in
    let kind = last_is kind_of (λ v w name value. rw (name, value)) None vs ws same in
    let needs = last_is needs_of (λ v w name value. rw name) None vs ws same in
    let unknown = last_is unknown_of (λ v w name value. rw name) None vs ws same in
    λ i. unless (option_or (fault i) (option_map BadLine (lines i))) (kind_in_format (version i) (kind i) (needs i) (unknown i))

one_outcome : (text : List ℕ) (error : ConfigError) (fault : Fault) (kind : Kind) → reported error ≡ Some fault → Says text (Err error) → Says text (Ok kind) → ⊥
one_outcome text error fault kind is (vs, bad, (left, reads, bad_is), faults) (ws, other, (left', reads', other_is), says) =
    let one = one_reading _ _ _ _ _ _ reads reads' in
    let same : kind_or_fault vs bad ≡ kind_or_fault ws other = outcome_is vs ws bad other one.0 (bad_is ∙ ap (option_map (grammar.line_number text)) one.1 ∙ sym other_is) in
    let fails : kind_or_fault vs bad ≡ Err fault = subst (λ (o : Option Fault). IfSome o (λ fault. kind_or_fault vs bad ≡ Err fault)) is faults in
    let both : ◌≡◌ {A = Result Kind Fault} (Err fault) (Ok kind) = sym fails ∙ same ∙ says in cc

-- a config with a fault says no kind
pub says_none : (directory text : List ℕ) (error : ConfigError) (at : Answers) → reported error ≢ None → short_file 16777216 (path_join directory (codes "config")) at ≡ Some (Some text) → Says text (Err error)
    → (kind : Option Kind) → ConfigSays directory kind at → ⊥
says_none directory text error at reports file fails None none = let both : ◌≡◌ {A = Option (Option (List ℕ))} (Some None) (Some (Some text)) = sym none ∙ file in cc
says_none directory text error at reports file fails (Some kind) (other, there, says) = go (reported error) refl
  where
    same : other ≡ text
    same = ap (λ file. unwrap_or (unwrap_or file None) text) (sym there ∙ file)

    go : (o : Option Fault) → reported error ≡ o → ⊥
    go None is = reports is
    go (Some fault) is = one_outcome text error fault kind is fails (subst (λ text. Says text (Ok kind)) same says)

-- where a config says nothing of the kind of ids, no kind is theirs
pub has_none : (directory : List ℕ) (at : Answers) → ((kind : Option Kind) → ConfigSays directory kind at → ⊥) → (kind : Kind) → HasKind directory kind at → ⊥
has_none directory at none kind (inl says) = none (Some kind) says
has_none directory at none kind (inr (says, is)) = none None says

pub beside_none : (objects above : List ℕ) (at : Answers) → above ≡ path_join objects (codes "..") → ((kind : Option Kind) → ConfigSays above kind at → ⊥) → (kind : Kind) → HasKindBeside objects kind at → ⊥
beside_none objects above at is none kind (inl says) = none (Some kind) (rw is says)
beside_none objects above at is none kind (inr (says, has)) = none None (rw is says)

pub above_none : (objects above directory : List ℕ) (at : Answers) → above ≡ path_join objects (codes "..") → directory ≡ unwrap_or (path_parent objects) objects → ConfigSays above None at
    → ((kind : Kind) → HasKind directory kind at → ⊥) → (kind : Kind) → HasKindBeside objects kind at → ⊥
above_none objects above directory at is parent missing none kind (inl (text, there, says)) =
    let both : ◌≡◌ {A = Option (List ℕ)} None (Some text) = ap (λ file. unwrap_or file None) (sym missing ∙ ap (λ above. short_file 16777216 (path_join above (codes "config")) at) is ∙ there) in cc
above_none objects above directory at is parent missing none kind (inr (says, has)) = none kind (rw parent has)
