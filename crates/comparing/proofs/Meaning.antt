-- An answer of `same_route` is determined by what it means.
use Rattle.std.proofs.Common.{◌≡◌, refl, sym, ap, ◌∙◌, Bool, Result, Ok, Err, MatchResult, IsErrAnd}
use Rattle.refusal.specs.declared.Refusal.{Refusal}
use Rattle.refusal.specs.Outcome.{Outcome, accepted, refused}
use Rattle.refusal.proofs.Meaning.{refusal_of, refusal-of}
use Rattle.comparing.specs.declared.Unread.{Unread}
use Rattle.comparing.specs.SameRoute.{NamedReason, of_grammar, of_first, of_second, same_route_of}

-- the answer that means o
route_of : Outcome NamedReason Bool → Result Bool Unread
route_of (accepted same) = Ok same
route_of (refused (of_grammar e)) = Err (Unread.Grammar (refusal_of e))
route_of (refused (of_first e)) = Err (Unread.First (refusal_of e))
route_of (refused (of_second e)) = Err (Unread.Second (refusal_of e))

meant : (r : Result Bool Unread) → r ≡ route_of (same_route_of r)
unfolding route_of
meant (Ok same) = refl
meant (Err (Unread.Grammar f)) = rw (refusal-of f)
meant (Err (Unread.First f)) = rw (refusal-of f)
meant (Err (Unread.Second f)) = rw (refusal-of f)

pub same_route_injective : (q r : Result Bool Unread) → same_route_of q ≡ same_route_of r → q ≡ r
same_route_injective q r h = meant q ∙ ap route_of h ∙ sym (meant r)

-- what `map_err` was given, by what it gave
module _ {A : Type 0} (name : Refusal → Unread) (r : Result A Refusal) where
  pub renamed_err : (u : Unread) → MatchResult r (λ x. ◌≡◌ {A = Result A Unread} (Err u) (Ok x)) (λ e. IsErrAnd {T = A} (Err u) (λ v. v ≡ name e)) → (e : Refusal) × (r ≡ Err e) × (u ≡ name e)
  renamed_err u h = go r h
    where
      go : (x : Result A Refusal) → MatchResult x (λ y. ◌≡◌ {A = Result A Unread} (Err u) (Ok y)) (λ e. IsErrAnd {T = A} (Err u) (λ v. v ≡ name e)) → (e : Refusal) × (x ≡ Err e) × (u ≡ name e)
      go (Ok y) h = cc
      go (Err e) h = (e, refl, h)

  pub renamed_ok : (a : A) → MatchResult r (λ x. ◌≡◌ {A = Result A Unread} (Ok a) (Ok x)) (λ e. IsErrAnd {E = Unread} (Ok a) (λ v. v ≡ name e)) → r ≡ Ok a
  renamed_ok a h = go r h
    where
      go : (x : Result A Refusal) → MatchResult x (λ y. ◌≡◌ {A = Result A Unread} (Ok a) (Ok y)) (λ e. IsErrAnd {E = Unread} (Ok a) (λ v. v ≡ name e)) → x ≡ Ok a
      go (Ok y) h = cc
      go (Err e) h = absurd h
