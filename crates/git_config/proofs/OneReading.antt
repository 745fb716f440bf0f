-- A config is read in one way: no other variables and no other bad line are its.
use Rattle.std.proofs.Common.{◌≡◌, ◌∙◌, ◌++◌, [], ℕ, List, Option, Some, None, Ok, Err, refl, sym, ap, subst, option_to_list}
use Rattle.git_config.specs.Grammar.{Read, Reads, Variable}
use Rattle.git_config.specs.Grammar.Reads.{ends, goes, stops}

abbrev parts : Read (List ℕ × Option Variable) → List ℕ × Option Variable × List ℕ × ℕ
parts (Ok read) = (read.0.0, read.0.1, read.1, 0)
parts (Err left) = ([], None, [], left)

pub one_reading : (section text : List ℕ) (variables others : List Variable) (bad other : Option ℕ) → Reads section text variables bad → Reads section text others other → (variables ≡ others) × (bad ≡ other)
one_reading _ _ _ _ _ _ (ends section) (ends _) = (refl, refl)
one_reading _ _ _ _ _ _ (stops section byte rest left is) (stops _ _ _ other so) = (refl, λ i. Some (parts ((sym is ∙ so) i)).3)
one_reading _ _ _ _ _ _ (stops section byte rest left is) (goes _ _ _ new next found variables bad so reads) = absurd (let same : ◌≡◌ {A = Read (List ℕ × Option Variable)} (Err left) (Ok ((new, found), next)) = sym is ∙ so in cc)
one_reading _ _ _ _ _ _ (goes section byte rest new next found variables bad is reads) (stops _ _ _ left so) = absurd (let same : ◌≡◌ {A = Read (List ℕ × Option Variable)} (Ok ((new, found), next)) (Err left) = sym is ∙ so in cc)
one_reading _ _ _ _ _ _ (goes section byte rest new next found variables bad is reads) (goes _ _ _ new' next' found' others other so reads') =
    let rest = one_reading new next variables others bad other reads (subst (λ (p : List ℕ × Option Variable × List ℕ × ℕ). Reads p.0 p.2 others other) (ap parts (sym so ∙ is)) reads') in
    (λ i. option_to_list (parts ((sym is ∙ so) i)).1 ++ rest.0 i, rest.1)
