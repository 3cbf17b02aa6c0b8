mod WishLemmas
