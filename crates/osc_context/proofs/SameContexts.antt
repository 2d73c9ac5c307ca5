-- A context has its parts.
use Rattle.std.proofs.Common.{◌≡◌, List, ℕ, refl, Option}
use Rattle.osc_hkdf.specs.Hkdf.{expand_of, extract_of}
use Rattle.std.specs.Prelude.{[], codes}
use Rattle.osc_context.specs.Features.{no_features}
use Rattle.osc_context.specs.SecurityContext.{SecurityContext}
use Rattle.osc_context.specs.Derivation.{context_of, info_of, key_of, common_iv_of}

-- a context of these parts
abbrev made : List ℕ → List ℕ → List ℕ → List ℕ → List ℕ → Option (List ℕ) → SecurityContext
made c ck s sk iv i = record { client = c; client_key = ck; server = s; server_key = sk; common_iv = iv; id_context = i; features = no_features }

-- identifiers, keys and Common IV that are those of a derivation make its context
pub context_is : (secret salt client server c s ck sk iv prk : List ℕ) (id_context i : Option (List ℕ))
    → c ≡ client → s ≡ server → i ≡ id_context → prk ≡ extract_of salt secret
    → ck ≡ expand_of prk (info_of client id_context (codes "Key") 16) 16
    → sk ≡ expand_of prk (info_of server id_context (codes "Key") 16) 16
    → iv ≡ expand_of prk (info_of [] id_context (codes "IV") 13) 13
    → made c ck s sk iv i ≡ context_of secret salt id_context client server
unfolding key_of common_iv_of
context_is secret salt client server c s ck sk iv prk id_context i ec es ei ep eck esk eiv = rw (ec, es, ei, eck, esk, eiv, ep) refl
