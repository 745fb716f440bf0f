use Rattle.gix_hash.proofs.Std.{◌≡◌, ◌∷◌, ◌∙◌, ◌^◌, ◌-◌, ℕ, List, [], IfOk, IfSome, Option, Some, ap, false, option_map, string_bytes, subst}
use Rattle.std.specs.Fmt.{format_spec, option_append, padded_integral, styled_digits_output}
use Rattle.repositories.specs.Stores.{byte_hex}
use Rattle.repositories.proofs.HexBytes.{two_digits}
use Rattle.directory_store.proofs.loose.fan_out.Goals as goal

pub returns : goal.returns
returns g c =
    let hex : styled_digits_output c.in_radix.result c.laid_out.result ≡ Some (byte_hex c.args.byte) =
    ap (styled_digits_output c.in_radix.result) c.laid_out.ensures
    ∙ ap (option_map (padded_integral (format_spec 32 0 4 2 (2 ^ 64 - 1)) false [])) c.in_radix.ensures
    ∙ ap Some (two_digits c.args.byte c.ranges.byte.fits) in
    subst (λ (out : Option (List ℕ)). IfOk c.format.result (λ s. IfSome (option_append (Some c.args.path.now) (option_append (Some (47 ∷ [])) out)) (λ text. string_bytes s ≡ text)))
    hex c.format.ensures.ok
