-- From what a call does to what an engine has of it. Rests on the theorem about one call.
use Rattle.std.proofs.Common.{◌≡◌, ℕ, refl, sym, ap, subst}
use Rattle.cells.specs.declared.store.Meaning.{Ghosts}
use Rattle.plain.specs.Calls.{Request, Answer, counted}
use Rattle.inner.specs.Serving.{Serving, Does}
use Rattle.plain.specs.Service.{serve}
use Rattle.standing.specs.Moments.{Sound}
use Rattle.inner.proofs.Moments.{stood_for, still_serving}
use Rattle.engine.specs.declared.engine.Engine.{Engine}
use Rattle.engine.specs.Service.{cells_of, capacity_of, InService, StandsFor, CallDoes, CallMade}

module _ {S : Type 0} (M : Ghosts S) where
  -- a call that leaves the store as it is
  pub store_kept : (e f : Engine S) (r : Request) (a : Answer) → M.ok e.store → f.store ≡ e.store →
      Does (capacity_of M e) (cells_of M e) e.inner r a (cells_of M e) f.inner → CallDoes M e r a f
  store_kept e f r a ok same d =
      record {
        ok = subst M.ok (sym same) ok;
        capacity = ap M.capacity same;
        does = subst (λ s. Does (capacity_of M e) (cells_of M e) e.inner r a (M.cells s) f.inner) (sym same) d;
      }

  -- the state that follows the one that it stood for
  still_stands : (e f : Engine S) (r : Request) (a : Answer) → M.ok e.store → CallDoes M e r a f → StandsFor M e → StandsFor M f
  still_stands e f r a ok d s =
      let after = stood_for (capacity_of M e) (cells_of M e) (cells_of M f) e.inner f.inner r a (M.numbered e.store ok) (M.within e.store ok) d.does s.state s.stands s.sound in
      record {
        state = (serve (capacity_of M e) s.state r).after;
        stands = after.stands;
        sound = subst (λ n. Sound n (serve (capacity_of M e) s.state r).after) (sym d.capacity) after.sound;
      }

  -- the complete outcome of a call, from what it does on words and cells
  pub call_made : (e f : Engine S) (r : Request) (a : Answer) → InService M e → CallDoes M e r a f → CallMade M e r a f
  call_made e f r a v d =
      record {
        did = d.does.did;
        capacity = d.capacity;
        in_service =
            record {
              ok = d.ok;
              serving =
                  subst (λ n. Serving n (cells_of M f) f.inner) (sym d.capacity)
                  (still_serving (capacity_of M e) (cells_of M e) (cells_of M f) e.inner f.inner r a (M.numbered e.store v.ok) (M.within e.store v.ok) v.serving d.does);
            };
        plain = stood_for (capacity_of M e) (cells_of M e) (cells_of M f) e.inner f.inner r a (M.numbered e.store v.ok) (M.within e.store v.ok) d.does;
        stands = still_stands e f r a v.ok d;
        unaltered = d.does.unaltered;
      }

  -- a question whose answer is a number, which alters nothing
  pub asked : (e : Engine S) (r : Request) (x y : ℕ) → x ≡ y → InService M e →
      Does (capacity_of M e) (cells_of M e) e.inner r (counted y) (cells_of M e) e.inner → CallMade M e r (counted x) e
  asked e r x y same v d =
      call_made e e r (counted x) v (subst (λ n. CallDoes M e r (counted n) e) (sym same) (store_kept e e r (counted y) v.ok refl d))
