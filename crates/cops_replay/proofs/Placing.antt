-- The text of a record in parts, and texts of records that are put at a place.
use Rattle.cops_replay.proofs.Names.{◌≡◌, ℕ, not, List, [], ◌∷◌, ◌++◌, refl, sym, ap, ◌∙◌, append_assoc, arith, IsTrue, codes, decimal, nat_tests, no_words, space, spaced, NodeCall, NodeReply, Found, NodeId, Record, call_words, reply_words, node_text, record_line, Get, front_text}

abbrev pub HasWords : List (List ℕ) → Type 0
HasWords words = IsTrue (not (no_words words))

pub spaced_more : (word : List ℕ) (words : List (List ℕ)) → HasWords words → spaced (word ∷ words) ≡ word ++ space ∷ spaced words
spaced_more word [] h = absurd cc
spaced_more word (next ∷ words) h = refl

pub spaced_two : (words more : List (List ℕ)) → HasWords words → HasWords more → spaced (words ++ more) ≡ spaced words ++ space ∷ spaced more
spaced_two [] more h k = absurd cc
spaced_two (word ∷ []) more h k = spaced_more word more k
spaced_two (word ∷ next ∷ words) more h k =
    ap (λ text. word ++ space ∷ text) (spaced_two (next ∷ words) more refl k) ∙ sym (append_assoc word (space ∷ spaced (next ∷ words)) (space ∷ spaced more))

pub call_begins : (call : NodeCall) → HasWords (call_words call)
call_begins (Get key wanted) = refl
call_begins call = refl

pub reply_begins : (reply : NodeReply) → HasWords (reply_words reply)
reply_begins (Found f) = refl
reply_begins reply = refl

pub more_begin : (words more : List (List ℕ)) → HasWords words → HasWords (words ++ more)
more_begin [] more h = absurd cc
more_begin (word ∷ words) more h = refl

-- five texts with what stands between them
abbrev in_parts : List ℕ → List ℕ → List ℕ → List ℕ → List ℕ → List ℕ
in_parts tenant node moment call reply = tenant ++ (space ∷ (node ++ (space ∷ (moment ++ (space ∷ (call ++ (codes " = " ++ reply)))))))

-- the line, part by part
pub line_in_parts : (tenant : List ℕ) (told : Record) → record_line tenant told ≡ in_parts tenant (node_text told.node) (decimal told.moment) (spaced (call_words told.call)) (spaced (reply_words told.reply))
line_in_parts tenant told = grind (arith, nat_tests, call_begins, more_begin, reply_begins, spaced_more, spaced_two)

-- an entry, part by part
pub entry_placed : (out o1 o2 o3 o4 o5 o6 o7 key version value deps near prev : List ℕ) → o1 ≡ out ++ key → o2 ≡ o1 ++ space ∷ [] → o3 ≡ o2 ++ version → o4 ≡ o3 ++ space ∷ [] → o5 ≡ o4 ++ (value ++ (space ∷ (deps ++ (space ∷ near)))) → o6 ≡ o5 ++ space ∷ [] → o7 ≡ o6 ++ prev
    → o7 ≡ out ++ (key ++ (space ∷ (version ++ (space ∷ (value ++ (space ∷ (deps ++ (space ∷ (near ++ (space ∷ prev))))))))))
entry_placed out o1 o2 o3 o4 o5 o6 o7 key version value deps near prev e1 e2 e3 e4 e5 e6 e7 =
    rw e7 (rw e6 (rw e5 (rw e4 (rw e3 (rw e2 (rw e1 (simp append_assoc)))))))

-- what stands before a call, part by part
pub front_placed : (out o1 o2 o3 o4 o5 o6 name moment : List ℕ) (node : NodeId) → o1 ≡ out ++ name → o2 ≡ o1 ++ space ∷ [] → o3 ≡ o2 ++ node_text node → o4 ≡ o3 ++ space ∷ [] → o5 ≡ o4 ++ moment → o6 ≡ o5 ++ space ∷ []
    → o6 ≡ out ++ (name ++ (space ∷ (node_text node ++ (space ∷ (moment ++ (space ∷ []))))))
front_placed out o1 o2 o3 o4 o5 o6 name moment node e1 e2 e3 e4 e5 e6 = rw e6 (rw e5 (rw e4 (rw e3 (rw e2 (rw e1 (simp append_assoc))))))

joined_parts : (out o1 o2 o3 o4 name node moment call reply : List ℕ) → o1 ≡ out ++ (name ++ (space ∷ (node ++ (space ∷ (moment ++ (space ∷ [])))))) → o2 ≡ o1 ++ call → o3 ≡ o2 ++ codes " = " → o4 ≡ o3 ++ reply
    → o4 ≡ out ++ (name ++ (space ∷ (node ++ (space ∷ (moment ++ (space ∷ (call ++ (codes " = " ++ reply))))))))
joined_parts out o1 o2 o3 o4 name node moment call reply e1 e2 e3 e4 = rw e4 (rw e3 (rw e2 (rw e1 (simp append_assoc))))

-- the line, part by part
pub line_placed : (out tenant : List ℕ) (told : Record) (o1 o2 o3 o4 : List ℕ) → o1 ≡ out ++ front_text tenant told.node told.moment → o2 ≡ o1 ++ spaced (call_words told.call) → o3 ≡ o2 ++ codes " = " → o4 ≡ o3 ++ spaced (reply_words told.reply)
    → o4 ≡ out ++ record_line tenant told
line_placed out tenant told o1 o2 o3 o4 e1 e2 e3 e4 = grind (arith, nat_tests, joined_parts, line_in_parts)
