mod OnlyMatches
